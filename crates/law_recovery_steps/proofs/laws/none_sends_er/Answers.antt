use Rattle.law_recovery_steps.proofs.NoErEntities.{none_sends_er}
use Rattle.law_recovery_steps.proofs.laws.none_sends_er.Goals as goal

pub returns : goal.returns
returns c = none_sends_er
