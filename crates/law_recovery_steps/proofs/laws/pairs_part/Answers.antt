use Rattle.law_recovery_steps.proofs.PartingPairs.{pairs_part}
use Rattle.law_recovery_steps.proofs.laws.pairs_part.Goals as goal

pub returns : goal.returns
returns c = pairs_part
