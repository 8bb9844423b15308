use Rattle.law_recovery.proofs.Wired.{on_wire}
use Rattle.law_recovery.proofs.laws.recovers_on_wire.Goals as goal

pub returns-clause-begins : goal.returns-clause-begins
returns-clause-begins g c = on_wire g.C.Carrier.link g.C.Carrier.steps c.whole_run.ensures.run c.whole_run.ensures.whole

pub returns-clause-prompt : goal.returns-clause-prompt
returns-clause-prompt g c = λ recovers titles begins queue_of prompt.
    on_wire g.C.Carrier.link g.C.Carrier.steps c.whole_run.ensures.run c.whole_run.ensures.whole titles begins (recovers titles begins queue_of prompt)
