-- What waits below is taken up and read one by one.
use Rattle.std.proofs.Common.{◌≡◌, ℕ, List, [], ◌∷◌, ◌++◌, refl, sym, ◌∙◌, ap, append_assoc, Some, None}
use Rattle.nsap.specs.declared.port.Port.{Port}
use Rattle.osi_base.specs.declared.unit.Up.{Up}
use Rattle.osi_base.specs.Link.{Link}
use Rattle.osi_base.specs.Calls.{Call, NextUp, TakesUp}
use Rattle.osi_base.proofs.Gatherings.{Gathering, gathered, gathering_next}
use Rattle.inactive_step.specs.declared.row.InactiveRow.{InactiveRow}
use Rattle.inactive_step.specs.Frames.{read_up, read_ups}
use Rattle.inactive_net.specs.steps.Reading.{ReadsAll}

-- so far these were taken up, and wait as what they are
pub record Reading {C : Type 0} (link : C → Link Port) (steps : C → Call Port → C → Type 0) (rows : List InactiveRow) (old : C) (before : List (Up (List ℕ))) (mid : C) (so_far : List (Up (List ℕ))) : Type 0 where
  pub ups : List (Up Port)
  pub gathering : Gathering link steps old ups mid
  pub added : so_far ≡ before ++ read_ups rows ups

reads_last : (rows : List InactiveRow) (ups : List (Up Port)) (up : Up Port) → read_ups rows (ups ++ up ∷ []) ≡ read_ups rows ups ++ read_up rows up ∷ []
reads_last rows [] up = refl
reads_last rows (first ∷ ups) up = ap (λ (xs : List (Up (List ℕ))). read_up rows first ∷ xs) (reads_last rows ups up)

module _ {C : Type 0} (link : C → Link Port) (steps : C → Call Port → C → Type 0) (rows : List InactiveRow) (old : C) (before : List (Up (List ℕ))) (mid : C) (so_far : List (Up (List ℕ))) (new : C) where
  pub reading_next : (up : Up Port) (after : List (Up (List ℕ))) → Reading link steps rows old before mid so_far → steps mid (NextUp (Some up)) new → TakesUp (link mid) (Some up) (link new)
      → after ≡ so_far ++ read_up rows up ∷ [] → Reading link steps rows old before new after
  reading_next up after p s t e = record {
    ups = p.ups ++ up ∷ [];
    gathering = gathering_next link steps old p.ups mid new up p.gathering s t;
    added = e ∙ ap (λ (xs : List (Up (List ℕ))). xs ++ read_up rows up ∷ []) p.added ∙ append_assoc before (read_ups rows p.ups) (read_up rows up ∷ [])
        ∙ ap (λ (xs : List (Up (List ℕ))). before ++ xs) (sym (reads_last rows p.ups up));
  }

  pub all_read : Reading link steps rows old before mid so_far → steps mid (NextUp None) new → TakesUp (link mid) None (link new) → ReadsAll link steps rows old before new so_far
  all_read p s t = record { ups = p.ups; gathers = gathered link steps old p.ups mid new p.gathering s t; added = p.added }
