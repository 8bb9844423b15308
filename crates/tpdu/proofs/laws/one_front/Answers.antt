use Rattle.tpdu.proofs.Fronts.{same_front}
use Rattle.tpdu.proofs.laws.one_front.Goals as goal

pub returns : goal.returns
returns c = same_front
