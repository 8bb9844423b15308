use Rattle.std.proofs.Common.{rules}
use Rattle.esis_pdu.specs.Lent.{value_of}
use Rattle.esis_tables.specs.Told.{on_lan}
use Rattle.esis_tables.proofs.Standing.{heard_stands}
use Rattle.esis_tables.proofs.redirects.Redirects.hear.Goals as goal

pub returns-in-Rd-clause-stands : goal.returns-in-Rd-clause-stands
returns-in-Rd-clause-stands c = heard_stands c.args.self.now c.hear.new.self c.args.now (on_lan c.args.lan) (value_of c.args.hello.now) c.hear.result
    c.requires.later (search rules)
