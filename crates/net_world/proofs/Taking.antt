-- What waits is taken up one by one, and each is told at once.
use Rattle.std.proofs.Common.{◌≡◌, ℕ, List, [], ◌∷◌, ◌++◌, sym, ◌∙◌, ap, append_assoc, Some, None}
use Rattle.std.proofs.lemmas.List.{append-nil}
use Rattle.osi_base.specs.declared.unit.Up.{Up}
use Rattle.osi_base.specs.Link.{Link}
use Rattle.osi_base.specs.Calls.{Call, NextUp, TakesUp}
use Rattle.osi_base.proofs.Gatherings.{Gathering, gathering_next, gathered}
use Rattle.script_journal.specs.declared.event.Event.{Event}
use Rattle.net_world.specs.Told.{told, up_events}
use Rattle.net_world.specs.steps.TakingUp.{TakesUpAll}

-- so far these were taken up, and told after the events before
pub record Taking {C : Type 0} (link : C → Link (List ℕ)) (steps : C → Call (List ℕ) → C → Type 0) (old : C) (before after : List Event) (new : C) : Type 0 where
  pub ups : List (Up (List ℕ))
  pub gathering : Gathering link steps old ups new
  pub told_is : after ≡ before ++ told ups

pub told_last : (ups : List (Up (List ℕ))) (up : Up (List ℕ)) → told (ups ++ up ∷ []) ≡ told ups ++ up_events up
told_last [] up = append-nil (up_events up)
told_last (first ∷ ups) up = ap (λ (rest : List Event). up_events first ++ rest) (told_last ups up) ∙ sym (append_assoc (up_events first) (told ups) (up_events up))

module _ {C : Type 0} (link : C → Link (List ℕ)) (steps : C → Call (List ℕ) → C → Type 0) where
  pub next_taken : (old mid new : C) (before so_far after : List Event) (up : Up (List ℕ)) → Taking link steps old before so_far mid → steps mid (NextUp (Some up)) new
      → TakesUp (link mid) (Some up) (link new) → after ≡ so_far ++ up_events up → Taking link steps old before after new
  next_taken old mid new before so_far after up taking step takes is = record {
    ups = taking.ups ++ up ∷ [];
    gathering = gathering_next link steps old taking.ups mid new up taking.gathering step takes;
    told_is = is ∙ ap (λ (all : List Event). all ++ up_events up) taking.told_is ∙ append_assoc before (told taking.ups) (up_events up)
        ∙ ap (λ (all : List Event). before ++ all) (sym (told_last taking.ups up));
  }

  pub all_taken : (old mid new : C) (before after : List Event) → Taking link steps old before after mid → steps mid (NextUp None) new → TakesUp (link mid) None (link new)
      → TakesUpAll link steps old before after new
  all_taken old mid new before after taking step takes = record {
    ups = taking.ups;
    gathers = gathered link steps old taking.ups mid new taking.gathering step takes;
    told_is = taking.told_is;
  }
