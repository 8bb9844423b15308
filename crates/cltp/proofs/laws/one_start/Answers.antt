use Rattle.cltp.proofs.OneRun.{one_start}
use Rattle.cltp.proofs.laws.one_start.Goals as goal

pub returns : goal.returns
returns g c = one_start g.C.Carrier.link g.C.Carrier.steps c.one_gathering.ensures
