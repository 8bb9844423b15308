use Rattle.law_tp4_pair.specs.Standing.{Left}
use Rattle.law_tp4_pair.proofs.Pairs.{stands_on}
use Rattle.law_tp4_pair.proofs.Resting.{accepts_stands, pair_rests}
use Rattle.law_tp4_pair.proofs.laws.stands.Goals as goal

pub returns : goal.returns
returns c = record { left = λ p l. Left l; accepted = accepts_stands; step = stands_on; rests = pair_rests }
