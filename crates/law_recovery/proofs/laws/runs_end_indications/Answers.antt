use Rattle.law_recovery.proofs.Running.{runs_end}
use Rattle.law_recovery.proofs.HalvesWired.{ends_on_wire}
use Rattle.law_recovery.proofs.laws.runs_end_indications.Goals as goal

pub returns-clause-whole_numbers : goal.returns-clause-whole_numbers
returns-clause-whole_numbers g c = runs_end g.C.Carrier.link g.C.Carrier.steps c.indications_end.ensures c.runs_are_ready.ensures.calls

pub returns-clause-wire_numbers : goal.returns-clause-wire_numbers
returns-clause-wire_numbers g c =
    ends_on_wire g.C.Carrier.link g.C.Carrier.steps c.whole_run.ensures.run c.whole_run.ensures.whole
    (runs_end g.C.Carrier.link g.C.Carrier.steps c.indications_end.ensures c.runs_are_ready.ensures.calls)
