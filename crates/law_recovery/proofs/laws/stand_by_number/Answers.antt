use Rattle.std.specs.Prelude.{◌≡◌, ℕ, Some}
use Rattle.tp4_conn.specs.End.{End}
use Rattle.law_tp4_lawful.proofs.ActsLines.{Flowing}
use Rattle.law_tp4_lawful.proofs.CalledStarts.{on_whole}
use Rattle.law_calm_run.specs.Service.{end_at_number}
use Rattle.law_recovery_run.specs.Following.{Stands}
use Rattle.law_recovery_run.proofs.Numbers.{has_number}
use Rattle.law_recovery.proofs.laws.stand_by_number.Goals as goal

pub returns : goal.returns
returns g c =
    let flow = c.flowed.ensures in
    let flowing : Flowing = record { step = flow.step; partner = flow.partner; later = flow.later; offered = flow.offered; plain = flow.plain; noted = flow.noted } in
    let link = g.C.Carrier.link in
    on_whole link g.C.Carrier.steps g.met.C.Carrier.keeps flowing flow.known c.journals_are_lawful.ensures.begins
    (λ journal last. (x : ℕ) (e : End) → Stands last x e → end_at_number last x ≡ Some e)
    (λ titles timers w journal world explains x e s. has_number link titles timers w journal world explains x e s)
