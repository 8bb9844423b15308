use Rattle.tp4_world.proofs.Lined.{lines_alike, lines_back}
use Rattle.tp4_world.proofs.laws.stays_honest.Goals as goal

pub returns : goal.returns
returns g c = record {
  before = lines_back g.C.Carrier.link g.C.Carrier.steps g.met.C.Carrier.keeps;
  alike = lines_alike g.C.Carrier.link g.C.Carrier.steps g.met.C.Carrier.keeps;
}
