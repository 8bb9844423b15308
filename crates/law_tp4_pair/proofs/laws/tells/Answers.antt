use Rattle.law_tp4_pair.proofs.ToldRows.{row_tells, told_on}
use Rattle.law_tp4_pair.proofs.laws.tells.Goals as goal

pub returns : goal.returns
returns c = record { row = row_tells; pair = told_on }
