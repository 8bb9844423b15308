use Rattle.tp4_world.proofs.OneRun.{one_start}
use Rattle.tp4_world.proofs.laws.one_start.Goals as goal

pub returns : goal.returns
returns g c = one_start g.C.Carrier.link g.C.Carrier.steps c.one_gathering.ensures c.one_writing.ensures
