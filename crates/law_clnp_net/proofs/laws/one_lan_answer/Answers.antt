use Rattle.law_clnp_net.proofs.Bags.{one_bag_answer}
use Rattle.law_clnp_net.proofs.laws.one_lan_answer.Goals as goal

pub returns : goal.returns
returns c = one_bag_answer
