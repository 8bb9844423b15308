use Rattle.law_inactive_answers.proofs.Exactly.{answers_exactly}
use Rattle.law_inactive_answers.proofs.laws.answers_exactly.Goals as goal

pub returns : goal.returns
returns c = answers_exactly
