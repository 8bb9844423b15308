use Rattle.osi_base.proofs.FletcherPair.{one_pair}
use Rattle.osi_base.proofs.laws.one_seal.Goals as goal

pub returns : goal.returns
returns c = one_pair
