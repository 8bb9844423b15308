use Rattle.law_recovery_steps.proofs.Stepping.{openings_step}
use Rattle.law_recovery_steps.proofs.laws.openings_step.Goals as goal

pub returns : goal.returns
returns c = openings_step
