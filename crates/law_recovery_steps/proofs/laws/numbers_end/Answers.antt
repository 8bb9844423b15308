use Rattle.law_recovery_steps.proofs.Spoken.{numbers_end}
use Rattle.law_recovery_steps.proofs.laws.numbers_end.Goals as goal

pub returns : goal.returns
returns c = numbers_end
