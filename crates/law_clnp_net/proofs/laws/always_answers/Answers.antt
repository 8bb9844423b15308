use Rattle.law_clnp_net.proofs.Always.{always_answers, always_gathered}
use Rattle.law_clnp_net.proofs.answered.Carrying.{bag_answers}
use Rattle.law_clnp_net.proofs.laws.always_answers.Goals as goal

pub returns-clause-answers : goal.returns-clause-answers
returns-clause-answers c = always_answers

pub returns-clause-gathers : goal.returns-clause-gathers
returns-clause-gathers c = always_gathered

pub returns-clause-lans : goal.returns-clause-lans
returns-clause-lans c = bag_answers
