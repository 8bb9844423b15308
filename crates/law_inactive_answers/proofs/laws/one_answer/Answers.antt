use Rattle.law_inactive_answers.proofs.Once.{one_answer}
use Rattle.law_inactive_answers.proofs.laws.one_answer.Goals as goal

pub returns : goal.returns
returns g c = one_answer g.C.Carrier.link g.C.Carrier.steps
