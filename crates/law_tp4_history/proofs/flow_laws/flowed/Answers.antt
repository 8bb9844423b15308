use Rattle.std.proofs.Common.{sym, ◌∙◌}
use Rattle.std.proofs.lemmas.Bool.{true≢false}
use Rattle.law_tp4_history.proofs.FlowHeard.{known}
use Rattle.law_tp4_history.proofs.FlowKept.{partner_stands, later_stands, later_timely, called_stands}
use Rattle.law_tp4_history.proofs.FlowOffers.{sent_offered, plain_offered, is_noted}
use Rattle.law_tp4_history.proofs.FlowRows.{step_flows}
use Rattle.law_tp4_history.proofs.flow_laws.flowed.Goals as goal

pub returns-clause-step : goal.returns-clause-step
returns-clause-step c = λ times terms now taken own theirs old event life proper may stands hears own_clock their_clock.
    step_flows times terms now taken own theirs old event life proper may stands hears own_clock their_clock

pub returns-clause-known : goal.returns-clause-known
returns-clause-known c = λ times w terms b stage tpdu sum x n o own told offered e number from says. known times w told x n o offered terms b stage tpdu own e number from says

pub returns-clause-partner : goal.returns-clause-partner
returns-clause-partner c = λ taken own theirs new_own new_theirs out back terms b stage stands. partner_stands taken own theirs new_own new_theirs out back terms b stage stands

pub returns-clause-later : goal.returns-clause-later
returns-clause-later c = later_stands

pub returns-clause-timely : goal.returns-clause-timely
returns-clause-timely c = later_timely

pub returns-clause-calling : goal.returns-clause-calling
returns-clause-calling c = λ terms made call own theirs none begun. absurd (true≢false (sym begun ∙ none))

pub returns-clause-called : goal.returns-clause-called
returns-clause-called c = called_stands

pub returns-clause-offered : goal.returns-clause-offered
returns-clause-offered c = λ own theirs now number address tpdus are. sent_offered own theirs now number address tpdus are

pub returns-clause-plain : goal.returns-clause-plain
returns-clause-plain c = plain_offered

pub returns-clause-noted : goal.returns-clause-noted
returns-clause-noted c = λ h track y z own theirs now body p other is. is_noted h track y z own theirs p other now body is
