use Rattle.tpdu.proofs.Targets.{same-value}
use Rattle.tpdu.proofs.laws.one_value.Goals as goal

pub returns : goal.returns
returns c = same-value
