use Rattle.law_recovery_steps.proofs.Keeping.{rows_keep_up}
use Rattle.law_recovery_steps.proofs.laws.rows_keep_up.Goals as goal

pub returns : goal.returns
returns c = rows_keep_up
