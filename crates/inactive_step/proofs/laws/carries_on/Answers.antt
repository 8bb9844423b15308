use Rattle.inactive_step.proofs.Kept.{inactive_keeps}
use Rattle.inactive_step.proofs.laws.carries_on.Goals as goal

pub returns : goal.returns
returns g c = inactive_keeps g.C.Carrier.link g.C.Carrier.steps g.met.C.Carrier.keeps g.met.C.Carrier.given
