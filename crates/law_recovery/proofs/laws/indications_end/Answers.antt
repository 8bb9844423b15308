use Rattle.law_tp4_lawful.proofs.ActsLines.{Flowing}
use Rattle.law_recovery.proofs.Running.{indicated_late}
use Rattle.law_recovery.proofs.laws.indications_end.Goals as goal

pub returns : goal.returns
returns g c titles timers journal last calls x since e at is =
    let flow = c.flowed.ensures in
    let flowing : Flowing = record { step = flow.step; partner = flow.partner; later = flow.later; offered = flow.offered; plain = flow.plain; noted = flow.noted } in
    indicated_late g.C.Carrier.link g.C.Carrier.steps g.met.C.Carrier.keeps flowing flow.known c.journals_are_lawful.ensures.begins titles timers journal last calls x since e
    ((c.ends_have_numbers.ensures titles timers journal last calls x e).1 at) is
