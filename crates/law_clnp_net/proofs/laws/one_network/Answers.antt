use Rattle.law_clnp_net.proofs.Bags.{one_net_answer, one_net_beginning}
use Rattle.law_clnp_net.proofs.laws.one_network.Goals as goal

pub returns-clause-answer : goal.returns-clause-answer
returns-clause-answer c = one_net_answer

pub returns-clause-beginning : goal.returns-clause-beginning
returns-clause-beginning c = one_net_beginning
