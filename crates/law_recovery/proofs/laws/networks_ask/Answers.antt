use Rattle.law_recovery.proofs.HalvesRecovering.{along_asks}
use Rattle.law_recovery.proofs.laws.networks_ask.Goals as goal

pub returns-clause-along : goal.returns-clause-along
returns-clause-along g c =
    along_asks g.C.Carrier.link g.C.Carrier.steps c.runs_are_ready.ensures.calls c.runs_are_ready.ensures.ready c.runs_are_ready.ensures.goes_on c.ends_have_numbers.ensures c.partners_are_alone.ensures
    c.calls_know.ensures.views c.over_calls.ensures.steady c.tries_are_past.ensures

pub returns-clause-whole_numbers : goal.returns-clause-whole_numbers
returns-clause-whole_numbers g c titles begins queue_of prompt =
    along_asks g.C.Carrier.link g.C.Carrier.steps c.runs_are_ready.ensures.calls c.runs_are_ready.ensures.ready c.runs_are_ready.ensures.goes_on c.ends_have_numbers.ensures c.partners_are_alone.ensures
    c.calls_know.ensures.views c.over_calls.ensures.steady c.tries_are_past.ensures titles begins (c.runs_ask.ensures.asks titles begins queue_of prompt) (c.runs_ask.ensures.accepts titles begins queue_of prompt)

pub returns-clause-wire_numbers : goal.returns-clause-wire_numbers
returns-clause-wire_numbers g c titles begins queue_of prompt =
    c.asks_on_wire.ensures titles begins
    (along_asks g.C.Carrier.link g.C.Carrier.steps c.runs_are_ready.ensures.calls c.runs_are_ready.ensures.ready c.runs_are_ready.ensures.goes_on c.ends_have_numbers.ensures c.partners_are_alone.ensures
    c.calls_know.ensures.views c.over_calls.ensures.steady c.tries_are_past.ensures titles begins (c.runs_ask.ensures.asks titles begins queue_of prompt) (c.runs_ask.ensures.accepts titles begins queue_of prompt))
