use Rattle.law_recovery.proofs.OutageWired.{on_wire}
use Rattle.law_recovery.proofs.laws.outages_end_none_on_wire.Goals as goal

pub returns-clause-begins : goal.returns-clause-begins
returns-clause-begins g c = on_wire g.C.Carrier.link g.C.Carrier.steps c.whole_run.ensures.run c.whole_run.ensures.whole

pub returns-clause-prompt : goal.returns-clause-prompt
returns-clause-prompt g c titles begins queue_of prompt =
    (on_wire g.C.Carrier.link g.C.Carrier.steps c.whole_run.ensures.run c.whole_run.ensures.whole titles begins).0 (c.outages_end_none.ensures.prompt titles begins queue_of prompt)

pub returns-clause-calm : goal.returns-clause-calm
returns-clause-calm g c titles begins queue_of prompt =
    (on_wire g.C.Carrier.link g.C.Carrier.steps c.whole_run.ensures.run c.whole_run.ensures.whole titles begins).1 (c.outages_end_none.ensures.calm titles begins queue_of prompt)
