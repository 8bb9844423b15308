use Rattle.law_inactive_answers.proofs.Always.{serves}
use Rattle.law_inactive_answers.proofs.laws.serves.Goals as goal

pub returns : goal.returns
returns c = serves
