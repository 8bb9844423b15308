use Rattle.inactive_step.proofs.Kept.{stays_sound}
use Rattle.inactive_step.proofs.laws.stays_sound.Goals as goal

pub returns : goal.returns
returns g c = stays_sound g.C.Carrier.link g.C.Carrier.steps g.met.C.Carrier.keeps
