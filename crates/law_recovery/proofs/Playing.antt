-- Two ends that were Opened where nothing waited, after lines: both are Opened still, or both have left.
use Rattle.std.proofs.Common.{◌⊎◌, inl, inr, ℕ, List, [], sym, subst}
use Rattle.osi_base.specs.Link.{Link}
use Rattle.script_journal.specs.declared.event.Event.{Event}
use Rattle.tp4_conn.specs.declared.states.InOpened.{InOpened}
use Rattle.tp4_conn.specs.declared.timers.Timers.{Timers}
use Rattle.law_tp4_pair.specs.Pair.{IsIdle, Pair}
use Rattle.tp4_world.specs.World.{World}
use Rattle.law_recovery_steps.specs.Beginning.{AreAgreed}
use Rattle.law_recovery_steps.specs.Known.{AreKnown}
use Rattle.law_recovery_steps.specs.Resting.{AreLater}
use Rattle.law_recovery_steps.specs.Going.{AreBothLeft, AreBothOpened, AreTimes, HasParted, HaveTimers}
use Rattle.law_recovery_steps.specs.Laws.{PairsPart}
use Rattle.law_recovery_run.specs.Following.{IsFollowed, IsLive}
use Rattle.law_recovery_run.specs.Settling.{IsEnded}
use Rattle.law_recovery.specs.Moving.{HasLasted, HasPlayed}
use Rattle.law_recovery_run.specs.Over.{HaveLeft}
use Rattle.law_recovery.proofs.Releasing.{ended_left}

both_live : (p : Pair) → AreBothOpened p → IsEnded p → ⊥
both_live p opened ended = ended (subst IsLive (sym opened.calling) tt) (subst IsLive (sym opened.called) tt)

pub plays : PairsPart → {C : Type 0} (link : C → Link (List ℕ)) (journal : List Event) (last : World C) (x y life : ℕ) (t : Timers) (p : Pair) (o q : InOpened) → AreKnown life p o q → AreAgreed p o q
    → HaveTimers t p o q → AreTimes t → (IsLive p.calling.stage → IsLive p.called.stage → HasLasted link journal last x y p) → HasPlayed link journal last x y t p o q
plays part {C} link journal last x y life t p o q known agreed timed times lasts = record { happenings = on.happenings; next = on.next; leads = on.leads; ticked = on.ticked; goes = by }
  where
    on : HasLasted link journal last x y p
    on = lasts (subst IsLive (sym known.calling) tt) (subst IsLive (sym known.called) tt)

    left : IsEnded on.next → AreBothLeft on.next
    left ended = ended_left part life t p o q known agreed timed times on.happenings on.next on.ticked on.leads ended

    by : (AreBothOpened on.next × IsIdle on.next × AreLater on.next × IsFollowed link journal last [] x y on.next) ⊎ (HasParted t p.clock o q p on.happenings on.next × HaveLeft last x y)
    by = elim (part life t p o q on.happenings on.next known agreed timed times on.ticked on.leads) [
      | inl opened ↦ elim on.goes [
        | inl idle ↦ inl (opened, idle.0, idle.1, idle.2)
        | inr ended ↦ absurd (both_live on.next opened ended)
      ]
      | inr parted ↦ elim on.goes [
        | inl idle ↦ inr (parted, on.over (parted.other_too idle.0))
        | inr ended ↦ inr (parted, on.over (left ended))
      ]
    ]
