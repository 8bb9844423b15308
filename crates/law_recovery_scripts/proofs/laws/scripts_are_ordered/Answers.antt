use Rattle.law_recovery_scripts.proofs.Ordered.{script_ordered}
use Rattle.law_recovery_scripts.proofs.laws.scripts_are_ordered.Goals as goal

pub returns : goal.returns
returns c = script_ordered
