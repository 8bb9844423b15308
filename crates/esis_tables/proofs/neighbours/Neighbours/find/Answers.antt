use Rattle.esis_tables.proofs.Standing.{found_stands}
use Rattle.esis_tables.proofs.neighbours.Neighbours.find.Goals as goal

pub returns-clause-stands : goal.returns-clause-stands
returns-clause-stands c = found_stands c.args.self.now c.args.now c.args.address.now c.find.result c.requires (cc)
