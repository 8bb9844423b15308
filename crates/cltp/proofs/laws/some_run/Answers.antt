use Rattle.cltp.proofs.SomeRun.{some_run}
use Rattle.cltp.proofs.laws.some_run.Goals as goal

pub returns : goal.returns
returns g c = some_run g.C.Carrier.link g.C.Carrier.steps g.met.C.Carrier.keeps
