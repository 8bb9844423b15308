use Rattle.law_tp4_lawful.proofs.ActsLines.{Flowing}
use Rattle.law_tp4_lawful.proofs.CalledStarts.{on_whole}
use Rattle.law_recovery_run.specs.Rivals.{HasNoRival}
use Rattle.law_recovery_run.proofs.Rivals.{no_rival}
use Rattle.law_recovery_run.proofs.laws.partners_are_alone.Goals as goal

pub returns : goal.returns
returns g c =
    let flow = c.flowed.ensures in
    let flowing : Flowing = record { step = flow.step; partner = flow.partner; later = flow.later; offered = flow.offered; plain = flow.plain; noted = flow.noted } in
    let link = g.C.Carrier.link in
    on_whole link g.C.Carrier.steps g.met.C.Carrier.keeps flowing flow.known c.journals_are_lawful.ensures.begins HasNoRival
    (λ titles timers w journal world explains x y going mine. no_rival link titles timers w journal world explains x y going mine)
