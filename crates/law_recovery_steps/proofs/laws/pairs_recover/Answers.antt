use Rattle.law_recovery_steps.proofs.Recovering.{pairs_recover}
use Rattle.law_recovery_steps.proofs.laws.pairs_recover.Goals as goal

pub returns : goal.returns
returns c = pairs_recover
