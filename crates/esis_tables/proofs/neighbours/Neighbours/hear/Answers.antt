use Rattle.std.proofs.Common.{rules}
use Rattle.esis_pdu.specs.Lent.{value_of}
use Rattle.esis_tables.proofs.Standing.{heard_stands}
use Rattle.esis_tables.proofs.neighbours.Neighbours.hear.Goals as goal

pub returns-in_ok-names-in-Esh-clause-stands : goal.returns-in_ok-names-in-Esh-clause-stands
returns-in_ok-names-in-Esh-clause-stands c = heard_stands c.args.self.now c.hear.new.self c.args.now c.args.port (value_of c.args.hello.now) c.hear.result
    c.requires.later (search rules)

pub returns-in-Ish-clause-stands : goal.returns-in-Ish-clause-stands
returns-in-Ish-clause-stands c = heard_stands c.args.self.now c.hear-in-Ish.new.self c.args.now c.args.port (value_of c.args.hello.now) c.hear-in-Ish.result
    c.requires.later (search rules)
