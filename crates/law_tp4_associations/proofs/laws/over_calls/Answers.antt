use Rattle.law_tp4_associations.proofs.Answered.{calls_answer}
use Rattle.law_tp4_associations.proofs.Tests.{calls_tell}
use Rattle.law_tp4_associations.proofs.laws.over_calls.Goals as goal

pub returns-clause-state : goal.returns-clause-state
returns-clause-state g c = calls_tell g.C.Carrier.link g.C.Carrier.steps g.met.C.Carrier.keeps

pub returns-clause-answer : goal.returns-clause-answer
returns-clause-answer g c = calls_answer g.C.Carrier.link g.C.Carrier.steps g.met.C.Carrier.keeps
