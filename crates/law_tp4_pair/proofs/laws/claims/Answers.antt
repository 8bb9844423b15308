use Rattle.law_tp4_pair.proofs.ShownIn.{claims}
use Rattle.law_tp4_pair.proofs.laws.claims.Goals as goal

pub returns : goal.returns
returns c = claims
