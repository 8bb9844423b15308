use Rattle.law_clnp_step.proofs.Kept.{stays_sound}
use Rattle.law_clnp_step.proofs.laws.stays_sound.Goals as goal

pub returns : goal.returns
returns g c = λ tables. stays_sound g.C.Carrier.link g.C.Carrier.steps g.met.C.Carrier.keeps g.met.C.Carrier.given tables
