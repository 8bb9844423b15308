use Rattle.inactive_step.proofs.Kept.{begins_soundly}
use Rattle.inactive_step.proofs.laws.begins_soundly.Goals as goal

pub returns : goal.returns
returns g c = begins_soundly g.C.Carrier.link
