use Rattle.law_tp4_history.proofs.Listed.{each_indicates}
use Rattle.law_tp4_history.proofs.laws.indications.Goals as goal

pub returns : goal.returns
returns c = each_indicates
