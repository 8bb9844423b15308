use Rattle.law_calm_run.specs.Service.{WaitsBy}
use Rattle.law_recovery.proofs.Joining.{all_kept, are_ordered}
use Rattle.law_recovery.proofs.laws.outages_end_none.Goals as goal

pub returns-clause-begins : goal.returns-clause-begins
returns-clause-begins g c =
    all_kept g.C.Carrier.link g.C.Carrier.steps c.lines_are_calls.ensures.whole_numbers c.runs_are_ready.ensures.calls c.ends_have_numbers.ensures c.partners_stay.ensures c.calm_ends_are_up_to_date.ensures

pub returns-clause-prompt : goal.returns-clause-prompt
returns-clause-prompt g c titles begins queue_of prompt =
    (all_kept g.C.Carrier.link g.C.Carrier.steps c.lines_are_calls.ensures.whole_numbers c.runs_are_ready.ensures.calls c.ends_have_numbers.ensures c.partners_stay.ensures c.calm_ends_are_up_to_date.ensures
    titles begins (c.runs_recover.ensures.whole_numbers titles begins queue_of prompt)).0

pub returns-clause-calm : goal.returns-clause-calm
returns-clause-calm g c titles begins queue_of prompt =
    (all_kept g.C.Carrier.link g.C.Carrier.steps c.lines_are_calls.ensures.whole_numbers c.runs_are_ready.ensures.calls c.ends_have_numbers.ensures c.partners_stay.ensures c.calm_ends_are_up_to_date.ensures
    titles begins (c.runs_recover.ensures.whole_numbers titles begins queue_of prompt)).1
    (are_ordered g.C.Carrier.link g.C.Carrier.steps titles begins (WaitsBy queue_of) (c.goes_in_order.ensures titles begins queue_of prompt))
