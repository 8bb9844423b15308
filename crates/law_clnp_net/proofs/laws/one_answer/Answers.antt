use Rattle.law_clnp_net.proofs.Steps.{one_answer, one_beginning}
use Rattle.law_clnp_net.proofs.laws.one_answer.Goals as goal

pub returns-clause-answer : goal.returns-clause-answer
returns-clause-answer g c = one_answer g.C.Carrier.link g.C.Carrier.steps

pub returns-clause-beginning : goal.returns-clause-beginning
returns-clause-beginning g c = one_beginning g.C.Carrier.link g.C.Carrier.steps
