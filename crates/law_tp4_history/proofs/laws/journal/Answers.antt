use Rattle.law_tp4_history.proofs.Telling.{all_true}
use Rattle.law_tp4_history.proofs.laws.journal.Goals as goal

pub returns : goal.returns
returns c = all_true
