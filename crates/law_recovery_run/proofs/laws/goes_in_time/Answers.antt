use Rattle.law_recovery_run.proofs.Timely.{in_time}
use Rattle.law_recovery_run.proofs.laws.goes_in_time.Goals as goal

pub returns : goal.returns
returns c = in_time
