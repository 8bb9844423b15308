use Rattle.law_tp4_lawful.proofs.ActsLines.{Flowing}
use Rattle.law_calm_run.specs.Service.{WaitsBy}
use Rattle.law_recovery.proofs.AskingWalks.{accepts_over, asks_over}
use Rattle.law_recovery.proofs.laws.runs_ask.Goals as goal

pub returns-clause-asks : goal.returns-clause-asks
returns-clause-asks g c titles begins queue_of =
    let flow = c.flowed.ensures in
    let flowing : Flowing = record { step = flow.step; partner = flow.partner; later = flow.later; offered = flow.offered; plain = flow.plain; noted = flow.noted } in
    asks_over g.C.Carrier.link g.C.Carrier.steps g.met.C.Carrier.keeps flowing flow.known c.journals_are_lawful.ensures.begins c.moved.ensures.going titles begins (WaitsBy queue_of)

pub returns-clause-accepts : goal.returns-clause-accepts
returns-clause-accepts g c titles begins queue_of =
    let flow = c.flowed.ensures in
    let flowing : Flowing = record { step = flow.step; partner = flow.partner; later = flow.later; offered = flow.offered; plain = flow.plain; noted = flow.noted } in
    accepts_over g.C.Carrier.link g.C.Carrier.steps g.met.C.Carrier.keeps flowing flow.known c.journals_are_lawful.ensures.begins c.moved.ensures.going titles begins (WaitsBy queue_of)
