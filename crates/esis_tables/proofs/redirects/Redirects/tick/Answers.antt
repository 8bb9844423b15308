use Rattle.esis_tables.proofs.Standing.{swept_stands}
use Rattle.esis_tables.proofs.redirects.Redirects.tick.Goals as goal

pub returns-clause-stands : goal.returns-clause-stands
returns-clause-stands c = swept_stands c.args.self.now c.tick.new.self c.args.now c.requires (cc)
