use Rattle.law_tp4_associations.proofs.Answered.{answers_ended}
use Rattle.law_tp4_associations.proofs.Tests.{tells_what_ended}
use Rattle.law_tp4_associations.proofs.laws.ended.Goals as goal

pub returns-clause-state : goal.returns-clause-state
returns-clause-state g c = tells_what_ended g.C.Carrier.link g.C.Carrier.steps g.met.C.Carrier.keeps

pub returns-clause-answer : goal.returns-clause-answer
returns-clause-answer g c = answers_ended g.C.Carrier.link g.C.Carrier.steps g.met.C.Carrier.keeps
