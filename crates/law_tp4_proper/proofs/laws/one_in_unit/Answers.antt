use Rattle.law_tp4_proper.proofs.OneUnits.{one_in_unit}
use Rattle.law_tp4_proper.proofs.laws.one_in_unit.Goals as goal

pub returns : goal.returns
returns c = one_in_unit
