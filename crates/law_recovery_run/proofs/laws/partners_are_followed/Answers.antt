use Rattle.law_tp4_lawful.proofs.ActsLines.{Flowing}
use Rattle.law_tp4_lawful.proofs.CalledStarts.{on_whole}
use Rattle.tp4_conn.specs.declared.states.InOpened.{InOpened}
use Rattle.tp4_conn.specs.declared.states.StateData.TheVariants.{Opened}
use Rattle.law_tp4_pair.specs.Pair.{Pair}
use Rattle.std.specs.Prelude.{◌≡◌, ℕ, List, []}
use Rattle.script_journal.specs.declared.event.Event.{Event}
use Rattle.law_recovery_run.specs.Following.{IsFollowed}
use Rattle.law_recovery_run.specs.Settling.{AreAtHand}
use Rattle.law_recovery_run.proofs.Beginning.{followed_are_partners, partners_begin}
use Rattle.law_recovery_run.proofs.laws.partners_are_followed.Goals as goal

pub returns : goal.returns
returns g c =
    let flow = c.flowed.ensures in
    let flowing : Flowing = record { step = flow.step; partner = flow.partner; later = flow.later; offered = flow.offered; plain = flow.plain; noted = flow.noted } in
    let link = g.C.Carrier.link in
    on_whole link g.C.Carrier.steps g.met.C.Carrier.keeps flowing flow.known c.journals_are_lawful.ensures.begins
    (λ (journal : List Event) last. (x y : ℕ) (p : Pair) (o q : InOpened)
    → (AreAtHand link journal last x y p o q → IsFollowed link journal last [] x y p)
    × (IsFollowed link journal last [] x y p → p.calling.stage ≡ Opened o → p.called.stage ≡ Opened q → AreAtHand link journal last x y p o q))
    (λ titles timers w journal world explains x y p o q. (
      λ h. partners_begin link titles timers w journal world explains x y p o q h,
      λ f one other. followed_are_partners link titles timers w journal world explains x y p o q f one other,
    ))
