use Rattle.law_tp4_proper.proofs.Outcomes.{some_taking}
use Rattle.law_tp4_proper.proofs.laws.some_hearing.Goals as goal

pub returns : goal.returns
returns c = some_taking
