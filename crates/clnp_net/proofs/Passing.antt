-- Notes below are passed on one by one.
use Rattle.std.proofs.Common.{◌≡◌, ℕ, List, [], ◌∷◌, ◌++◌, refl, sym, ◌∙◌, ap, append_assoc, Some, None}
use Rattle.nsap.specs.declared.port.Port.{Port}
use Rattle.osi_base.specs.declared.unit.Up.{Up}
use Rattle.osi_base.specs.declared.unit.Up.TheVariants.{Unit as Came, Note as Noted}
use Rattle.osi_base.specs.Link.{Link}
use Rattle.osi_base.specs.Calls.{Call, NextUp, TakesUp}
use Rattle.osi_base.proofs.Gatherings.{Gathering, gathered, gathering_next}
use Rattle.law_clnp_step.specs.Handling.{notes_of}
use Rattle.clnp_net.specs.steps.Telling.{Passes, note_in}

-- so far these were taken up, and their notes told
pub record Passing {C : Type 0} (link : C → Link Port) (steps : C → Call Port → C → Type 0) (old : C) (before : List (Up (List ℕ))) (mid : C) (so_far : List (Up (List ℕ))) : Type 0 where
  pub ups : List (Up Port)
  pub gathering : Gathering link steps old ups mid
  pub added : so_far ≡ before ++ notes_of ups

notes_last : (ups : List (Up Port)) (up : Up Port) → notes_of (ups ++ up ∷ []) ≡ notes_of ups ++ note_in up
notes_last [] (Noted note) = refl
notes_last [] (Came arrival) = refl
notes_last (Noted note ∷ ups) up = ap (λ (xs : List (Up (List ℕ))). Noted note ∷ xs) (notes_last ups up)
notes_last (Came arrival ∷ ups) up = notes_last ups up

pub passing_next : {C : Type 0} (link : C → Link Port) (steps : C → Call Port → C → Type 0) (old : C) (before : List (Up (List ℕ))) (mid : C) (so_far : List (Up (List ℕ))) (new : C) (up : Up Port) (after : List (Up (List ℕ)))
    → Passing link steps old before mid so_far → steps mid (NextUp (Some up)) new → TakesUp (link mid) (Some up) (link new) → after ≡ so_far ++ note_in up → Passing link steps old before new after
passing_next link steps old before mid so_far new up after p s t e = record {
  ups = p.ups ++ up ∷ [];
  gathering = gathering_next link steps old p.ups mid new up p.gathering s t;
  added = e ∙ ap (λ (xs : List (Up (List ℕ))). xs ++ note_in up) p.added ∙ append_assoc before (notes_of p.ups) (note_in up) ∙ ap (λ (xs : List (Up (List ℕ))). before ++ xs) (sym (notes_last p.ups up));
}

pub passed : {C : Type 0} (link : C → Link Port) (steps : C → Call Port → C → Type 0) (old : C) (before : List (Up (List ℕ))) (mid : C) (so_far : List (Up (List ℕ))) (new : C)
    → Passing link steps old before mid so_far → steps mid (NextUp None) new → TakesUp (link mid) None (link new) → Passes link steps old before new so_far
passed link steps old before mid so_far new p s t = record { ups = p.ups; gathers = gathered link steps old p.ups mid new p.gathering s t; added = p.added }
