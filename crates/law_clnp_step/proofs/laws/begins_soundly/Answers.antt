use Rattle.law_clnp_step.proofs.Kept.{begins_soundly}
use Rattle.law_clnp_step.proofs.laws.begins_soundly.Goals as goal

pub returns : goal.returns
returns g c = λ tables. begins_soundly g.C.Carrier.link g.C.Carrier.steps g.met.C.Carrier.keeps g.met.C.Carrier.given tables
