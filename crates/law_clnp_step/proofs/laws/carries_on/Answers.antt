use Rattle.law_clnp_step.proofs.Kept.{net_keeps}
use Rattle.law_clnp_step.proofs.laws.carries_on.Goals as goal

pub returns : goal.returns
returns g c = λ tables. net_keeps g.C.Carrier.link g.C.Carrier.steps g.met.C.Carrier.keeps g.met.C.Carrier.given tables
