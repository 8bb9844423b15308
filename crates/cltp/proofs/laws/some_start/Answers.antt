use Rattle.cltp.proofs.SomeRun.{some_start}
use Rattle.cltp.proofs.laws.some_start.Goals as goal

pub returns : goal.returns
returns g c = some_start g.C.Carrier.link g.C.Carrier.steps g.met.C.Carrier.keeps
