use Rattle.law_tp4_lawful.proofs.ActsLines.{Flowing}
use Rattle.law_recovery.proofs.OutageWalking.{partners_stay}
use Rattle.law_recovery.proofs.laws.partners_stay.Goals as goal

pub returns : goal.returns
returns g c =
    let flow = c.flowed.ensures in
    let flowing : Flowing = record { step = flow.step; partner = flow.partner; later = flow.later; offered = flow.offered; plain = flow.plain; noted = flow.noted } in
    partners_stay g.C.Carrier.link g.C.Carrier.steps g.met.C.Carrier.keeps flowing flow.known c.journals_are_lawful.ensures.begins
