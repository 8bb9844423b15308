use Rattle.tp4_world.proofs.Lined.{tells_asked}
use Rattle.tp4_world.proofs.laws.tells_asked.Goals as goal

pub returns : goal.returns
returns g c = tells_asked g.C.Carrier.link g.C.Carrier.steps g.met.C.Carrier.keeps
