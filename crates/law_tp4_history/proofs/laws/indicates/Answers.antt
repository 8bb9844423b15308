use Rattle.law_tp4_history.proofs.Beginnings.{indicates}
use Rattle.law_tp4_history.proofs.laws.indicates.Goals as goal

pub returns : goal.returns
returns c = indicates
