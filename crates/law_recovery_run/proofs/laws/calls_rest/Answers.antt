use Rattle.law_tp4_lawful.proofs.ActsLines.{Flowing}
use Rattle.law_recovery_run.proofs.Readiness.{calls_rest}
use Rattle.law_recovery_run.proofs.laws.calls_rest.Goals as goal

pub returns : goal.returns
returns g c =
    let flow = c.flowed.ensures in
    let flowing : Flowing = record { step = flow.step; partner = flow.partner; later = flow.later; offered = flow.offered; plain = flow.plain; noted = flow.noted } in
    calls_rest g.C.Carrier.link g.C.Carrier.steps g.met.C.Carrier.keeps flowing flow.known c.journals_are_lawful.ensures.begins
