use Rattle.law_recovery.proofs.Trying.{tries_past}
use Rattle.law_recovery.proofs.laws.tries_are_past.Goals as goal

pub returns : goal.returns
returns g c = tries_past g.C.Carrier.link g.C.Carrier.steps g.met.C.Carrier.keeps
