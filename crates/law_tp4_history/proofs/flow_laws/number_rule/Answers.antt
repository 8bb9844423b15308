use Rattle.law_tp4_history.proofs.FlowRule.{dt_rule, ed_rule}
use Rattle.law_tp4_history.proofs.flow_laws.number_rule.Goals as goal

pub returns-clause-dt : goal.returns-clause-dt
returns-clause-dt c = dt_rule

pub returns-clause-ed : goal.returns-clause-ed
returns-clause-ed c = ed_rule
