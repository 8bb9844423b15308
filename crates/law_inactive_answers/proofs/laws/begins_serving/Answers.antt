use Rattle.law_inactive_answers.proofs.Always.{begins_serving}
use Rattle.law_inactive_answers.proofs.laws.begins_serving.Goals as goal

pub returns : goal.returns
returns c = begins_serving
