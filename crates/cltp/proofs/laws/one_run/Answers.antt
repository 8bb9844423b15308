use Rattle.cltp.proofs.OneRun.{one_run}
use Rattle.cltp.proofs.laws.one_run.Goals as goal

pub returns : goal.returns
returns g c = one_run g.C.Carrier.link g.C.Carrier.steps c.one_gathering.ensures
