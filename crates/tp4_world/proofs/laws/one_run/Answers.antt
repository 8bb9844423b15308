use Rattle.tp4_world.proofs.OneRun.{one_run}
use Rattle.tp4_world.proofs.laws.one_run.Goals as goal

pub returns : goal.returns
returns g c = one_run g.C.Carrier.link g.C.Carrier.steps c.one_gathering.ensures c.one_writing.ensures c.one_hearing.ensures
