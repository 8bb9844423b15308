use Rattle.tp4_flow.proofs.Wires.{ak_on, arrival_on, dt_on, ed_on, granted_on}
use Rattle.tp4_flow.proofs.laws.over_wires.Goals as goal

pub returns-clause-got : goal.returns-clause-got
returns-clause-got c = arrival_on

pub returns-clause-dt : goal.returns-clause-dt
returns-clause-dt c = dt_on

pub returns-clause-ed : goal.returns-clause-ed
returns-clause-ed c = ed_on

pub returns-clause-ak : goal.returns-clause-ak
returns-clause-ak c = ak_on

pub returns-clause-granted : goal.returns-clause-granted
returns-clause-granted c = granted_on
