-- What waits is taken up one by one: each is told at once, and what a unit gives is kept until all is told.
use Rattle.std.proofs.Common.{◌≡◌, ℕ, List, [], ◌∷◌, ◌++◌, Some, None, refl, sym, ◌∙◌, ap, subst, append_assoc}
use Rattle.std.proofs.lemmas.List.{append-nil}
use Rattle.osi_base.specs.declared.unit.Up.{Up}
use Rattle.osi_base.specs.Link.{Link}
use Rattle.osi_base.specs.Calls.{Call, NextUp, TakesUp as HandsUp}
use Rattle.osi_base.proofs.Gatherings.{Gathering, gathering_next, gathered}
use Rattle.osi_base.proofs.Standings.{stands_same}
use Rattle.net_world.specs.Told.{told, up_events}
use Rattle.net_world.proofs.Taking.{told_last}
use Rattle.script_journal.specs.declared.event.Event.{Event}
use Rattle.cltp.specs.declared.system.ClSystem.{ClSystem}
use Rattle.cltp.specs.Hearing.{HearsAll}
use Rattle.cltp.specs.Run.{TakesUp, Tells}
use Rattle.cltp.specs.steps.TakingUp.{HearsUp}
use Rattle.cltp.proofs.Hearings.{hears_last}

-- so far these were taken up: what they tell stands behind the events before, and what the units among them give is kept
pub record Taking {C : Type 0} (link : C → Link (List ℕ)) (steps : C → Call (List ℕ) → C → Type 0) (systems : List ClSystem) (old : C) (before after heard : List Event) (new : C) : Type 0 where
  pub ups : List (Up (List ℕ))
  pub gathering : Gathering link steps old ups new
  pub told_is : after ≡ before ++ told ups
  pub hears : HearsAll systems ups heard

module _ {C : Type 0} (link : C → Link (List ℕ)) (steps : C → Call (List ℕ) → C → Type 0) (systems : List ClSystem) where
  pub none_taken : (old : C) (before heard : List Event) → heard ≡ [] → Taking link steps systems old before before heard old
  none_taken old before heard none = record {
    ups = [];
    gathering = record { waited = refl; stands = stands_same (link old); grows = λ entry h. h; chain = refl };
    told_is = sym (append-nil before);
    hears = none;
  }

  pub next_taken : (old mid new : C) (before so_far after heard then : List Event) (up : Up (List ℕ)) → Taking link steps systems old before so_far heard mid
      → steps mid (NextUp (Some up)) new → HandsUp (link mid) (Some up) (link new) → Tells heard then (λ made. HearsUp systems up made) → after ≡ so_far ++ up_events up
      → Taking link steps systems old before after then new
  next_taken old mid new before so_far after heard then up taking step takes tells is = record {
    ups = taking.ups ++ up ∷ [];
    gathering = gathering_next link steps old taking.ups mid new up taking.gathering step takes;
    told_is = is ∙ ap (λ (all : List Event). all ++ up_events up) taking.told_is ∙ append_assoc before (told taking.ups) (up_events up)
        ∙ ap (λ (all : List Event). before ++ all) (sym (told_last taking.ups up));
    hears = hears_at tells.made tells.added tells.are;
  }
    where
      hears_at : (made : List Event) → then ≡ heard ++ made → HearsUp systems up made → HearsAll systems (taking.ups ++ up ∷ []) then
      hears_at made added are = subst (λ (h : List Event). HearsAll systems (taking.ups ++ up ∷ []) h) (sym added) (hears_last systems taking.ups up heard made taking.hears are)

  pub all_taken : (old mid new : C) (before so_far after heard : List Event) → Taking link steps systems old before so_far heard mid
      → steps mid (NextUp None) new → HandsUp (link mid) None (link new) → after ≡ so_far ++ heard → Tells before after (λ made. TakesUp link steps systems old made new)
  all_taken old mid new before so_far after heard taking step takes is = record {
    made = told taking.ups ++ heard;
    added = is ∙ ap (λ (all : List Event). all ++ heard) taking.told_is ∙ append_assoc before (told taking.ups) heard;
    are = record {
      ups = taking.ups;
      heard = heard;
      gathers = gathered link steps old taking.ups mid new taking.gathering step takes;
      hears = taking.hears;
      made_is = refl;
    };
  }
