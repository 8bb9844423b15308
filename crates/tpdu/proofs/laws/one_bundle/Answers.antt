use Rattle.tpdu.proofs.Fronts.{same_bundle}
use Rattle.tpdu.proofs.laws.one_bundle.Goals as goal

pub returns : goal.returns
returns c = same_bundle
