use Rattle.law_tp4_rows.proofs.Leaving.{row_leaves}
use Rattle.law_tp4_rows.proofs.laws.leaves.Goals as goal

pub returns : goal.returns
returns c = row_leaves
