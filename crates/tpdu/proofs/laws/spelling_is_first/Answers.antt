use Rattle.tpdu.proofs.Fronts.{spelling_first}
use Rattle.tpdu.proofs.laws.spelling_is_first.Goals as goal

pub returns : goal.returns
returns c = spelling_first
