use Rattle.tp4_world.proofs.Lined.{all_did_alike, all_did_back}
use Rattle.tp4_world.proofs.laws.calls_stay_honest.Goals as goal

pub returns : goal.returns
returns g c = record {
  before = all_did_back g.C.Carrier.link g.C.Carrier.steps g.met.C.Carrier.keeps;
  alike = all_did_alike g.C.Carrier.link g.C.Carrier.steps g.met.C.Carrier.keeps;
}
