use Rattle.law_recovery_steps.proofs.Timely.{parted_in_time}
use Rattle.law_recovery_steps.proofs.laws.parted_in_time.Goals as goal

pub returns : goal.returns
returns c = parted_in_time
