use Rattle.cltp.proofs.Runs.{shows_sent}
use Rattle.cltp.proofs.laws.shows_sent.Goals as goal

pub returns : goal.returns
returns g c = shows_sent g.C.Carrier.link g.C.Carrier.steps g.met.C.Carrier.keeps
