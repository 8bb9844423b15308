use Rattle.law_inactive_answers.proofs.Once.{one_net_answer}
use Rattle.law_inactive_answers.proofs.laws.one_network.Goals as goal

pub returns : goal.returns
returns c = one_net_answer
