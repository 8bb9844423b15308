use Rattle.law_tp4_lawful.proofs.ActsLines.{Flowing}
use Rattle.law_tp4_lawful.proofs.CalledStarts.{on_whole}
use Rattle.law_recovery_run.specs.Aside.{StaysAside}
use Rattle.law_recovery_run.proofs.Aside.{stays_aside}
use Rattle.law_recovery_run.proofs.laws.others_stay_aside.Goals as goal

pub returns : goal.returns
returns g c =
    let flow = c.flowed.ensures in
    let flowing : Flowing = record { step = flow.step; partner = flow.partner; later = flow.later; offered = flow.offered; plain = flow.plain; noted = flow.noted } in
    let link = g.C.Carrier.link in
    on_whole link g.C.Carrier.steps g.met.C.Carrier.keeps flowing flow.known c.journals_are_lawful.ensures.begins (StaysAside link)
    (λ titles timers w journal world explains x y f from t sum beside. stays_aside link titles timers w journal world explains c.moved.ensures.going x y f from t sum beside)
