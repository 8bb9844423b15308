use Rattle.law_recovery.proofs.Running.{along_follows}
use Rattle.law_recovery.proofs.HalvesWired.{follows_on_wire}
use Rattle.law_recovery.proofs.laws.runs_follow.Goals as goal

pub returns-clause-along : goal.returns-clause-along
returns-clause-along g c = along_follows g.C.Carrier.link g.C.Carrier.steps c.runs_are_ready.ensures.calls c.runs_are_ready.ensures.ready c.runs_are_ready.ensures.goes_on

pub returns-clause-on_wire : goal.returns-clause-on_wire
returns-clause-on_wire g c = follows_on_wire g.C.Carrier.link g.C.Carrier.steps c.whole_run.ensures.run c.whole_run.ensures.whole

pub returns-clause-whole_numbers : goal.returns-clause-whole_numbers
returns-clause-whole_numbers g c titles begins queue_of prompt =
    along_follows g.C.Carrier.link g.C.Carrier.steps c.runs_are_ready.ensures.calls c.runs_are_ready.ensures.ready c.runs_are_ready.ensures.goes_on titles begins
    (c.lines_follow.ensures titles begins queue_of prompt)

pub returns-clause-wire_numbers : goal.returns-clause-wire_numbers
returns-clause-wire_numbers g c titles begins queue_of prompt =
    follows_on_wire g.C.Carrier.link g.C.Carrier.steps c.whole_run.ensures.run c.whole_run.ensures.whole titles begins
    (along_follows g.C.Carrier.link g.C.Carrier.steps c.runs_are_ready.ensures.calls c.runs_are_ready.ensures.ready c.runs_are_ready.ensures.goes_on titles begins
    (c.lines_follow.ensures titles begins queue_of prompt))
