use Rattle.tp4_number.specs.Number.{whole}
use Rattle.law_tp4_lawful.proofs.ActsLines.{Flowing}
use Rattle.law_recovery_run.proofs.Readiness.{runs_are_calls, runs_go_on, runs_ready}
use Rattle.law_recovery_run.proofs.laws.runs_are_ready.Goals as goal

pub returns-clause-calls : goal.returns-clause-calls
returns-clause-calls g c = runs_are_calls g.C.Carrier.link g.C.Carrier.steps whole c.lines_are_calls.ensures.whole_numbers

pub returns-clause-ready : goal.returns-clause-ready
returns-clause-ready g c =
    let flow = c.flowed.ensures in
    let flowing : Flowing = record { step = flow.step; partner = flow.partner; later = flow.later; offered = flow.offered; plain = flow.plain; noted = flow.noted } in
    runs_ready g.C.Carrier.link g.C.Carrier.steps g.met.C.Carrier.keeps flowing flow.known c.journals_are_lawful.ensures.begins
    (runs_are_calls g.C.Carrier.link g.C.Carrier.steps whole c.lines_are_calls.ensures.whole_numbers)

pub returns-clause-goes_on : goal.returns-clause-goes_on
returns-clause-goes_on g c = runs_go_on g.C.Carrier.link g.C.Carrier.steps g.met.C.Carrier.keeps
