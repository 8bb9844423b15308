use Rattle.law_tp4_history.proofs.WorkedSteps.{worked}
use Rattle.law_tp4_history.proofs.laws.worked_history.Goals as goal

pub returns : goal.returns
returns c = worked
