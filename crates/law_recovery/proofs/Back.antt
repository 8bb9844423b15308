-- Of a pair that is followed to where nothing waits: both are Opened, and so have shown all; or one has left, and so has the other.
use Rattle.std.proofs.Common.{◌≡◌, inl, inr, ℕ, ◌+◌, ◌≤◌, List, Some, sym, ◌∙◌, ap, subst}
use Rattle.std.specs.Prelude.{max}
use Rattle.osi_base.specs.Calls.{Call}
use Rattle.osi_base.specs.Link.{Link}
use Rattle.tp4_conn.specs.End.{End}
use Rattle.tp4_conn.specs.declared.states.InOpened.{InOpened}
use Rattle.tp4_conn.specs.declared.states.StateData.TheVariants.{Opened}
use Rattle.law_tp4_pair.specs.Claim.{HasShown}
use Rattle.law_tp4_pair.specs.Pair.{IsIdle, Pair}
use Rattle.law_tp4_pair.specs.Standing.{HasLeft}
use Rattle.law_recovery_steps.specs.Steps.{IsParted}
use Rattle.law_recovery_steps.specs.Going.{AreBothLeft, AreBothOpened}
use Rattle.tp4_world.specs.World.{World}
use Rattle.law_tp4_lawful.proofs.WorldPlaces.{some_same}
use Rattle.law_calm_run.specs.Service.{end_at_number}
use Rattle.law_recovery_run.specs.Laws.{EndsHaveNumbers}
use Rattle.law_recovery_run.specs.Service.{IsOver}
use Rattle.law_recovery.specs.Followed.{HaveShown}
use Rattle.law_recovery.specs.Laws.{FollowedAreBack, FollowedPart, FollowedShow}

open_same : (one other : InOpened) → Opened one ≡ Opened other → one ≡ other
open_same one other is = cc is

-- both are Opened, so none has left
not_parted : (last : Pair) → AreBothOpened last → IsParted last → ⊥
not_parted last opened (inl left) = subst HasLeft opened.calling left
not_parted last opened (inr left) = subst HasLeft opened.called left

-- an end that has left, by its number
left_over : {C : Type 0} (world : World C) (number : ℕ) (end : End) → end_at_number world number ≡ Some end → HasLeft end.stage → IsOver world number
left_over world number end is left e o there is_open =
    let same : end ≡ e = some_same end e (sym is ∙ there) in
    subst HasLeft (ap (λ (x : End). x.stage) same ∙ is_open) left

pub followed_back : {C : Type 0} (link : C → Link (List ℕ)) (steps : C → Call (List ℕ) → C → Type 0) → EndsHaveNumbers link steps → FollowedShow link steps → FollowedPart link steps → FollowedAreBack link steps
followed_back {C} link steps numbers show part titles timers early later first second one two low x y p last o q happenings f is_open is_open_there g ticked leads =
    elim (part titles timers early first one low x y p last o q happenings f is_open is_open_there ticked leads) [
      | inl opened ↦ inl (record {
        x = last.calling;
        y = last.called;
        o = opened.o;
        q = opened.q;
        calling_is = x_is;
        called_is = y_is;
        calling_open = opened.calling;
        called_open = opened.called;
        there = λ late. (shown opened late).0;
        here = λ late. (shown opened late).1;
      })
      | inr parted ↦
          let both : AreBothLeft last = parted.0.other_too idle in
          inr (record {
            parted = parted.0;
            not_come = parted.1;
            calling_over = left_over second x last.calling x_is both.0;
            called_over = left_over second y last.called y_is both.1;
          })
    ]
  where
    idle : IsIdle last
    idle = record { forth = g.forth.waits_are; back = g.back.waits_are }

    x_is : end_at_number second x ≡ Some last.calling
    x_is = (numbers titles timers later second two x last.calling).0 g.calling

    y_is : end_at_number second y ≡ Some last.called
    y_is = (numbers titles timers later second two y last.called).0 g.called

    shown : (opened : AreBothOpened last) → (link first.carrier).clock + max timers.t1 timers.window ≤ (link second.carrier).clock
        → HasShown (link second.carrier).clock later x y opened.o.halves.sending opened.q.halves.receiving
        × HasShown (link second.carrier).clock later y x opened.q.halves.sending opened.o.halves.receiving
    shown opened late = elim (show titles timers early later first second one two x y p last o q happenings f is_open is_open_there g leads late) [
      | inl left ↦ absurd (not_parted last opened left)
      | inr h ↦ as_opened h
    ]
      where
        as_opened : HaveShown link later second x y last
            → HasShown (link second.carrier).clock later x y opened.o.halves.sending opened.q.halves.receiving
            × HasShown (link second.carrier).clock later y x opened.q.halves.sending opened.o.halves.receiving
        as_opened h =
            let P : InOpened → InOpened → Type 0 = λ i k.
            HasShown (link second.carrier).clock later x y i.halves.sending k.halves.receiving × HasShown (link second.carrier).clock later y x k.halves.sending i.halves.receiving in
            subst (λ (i : InOpened). P i opened.q) (open_same h.o opened.o (sym h.calling_open ∙ opened.calling))
            (subst (λ (k : InOpened). P h.o k) (open_same h.q opened.q (sym h.called_open ∙ opened.called)) (h.there, h.here))
