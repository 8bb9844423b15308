use Rattle.law_recovery_run.proofs.Speaking.{row_speaks}
use Rattle.law_recovery_run.proofs.laws.open_ends_speak.Goals as goal

pub returns : goal.returns
returns c now e event live own by = row_speaks now e event live own by
