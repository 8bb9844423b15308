-- An ED at a half on the wire: by the two tests, for the next one and for the one before it.
use Rattle.std.proofs.Common.{◌≡◌, ℕ, ◌+◌, ◌*◌, ◌%◌, ◌<◌, ◌==◌, ◌||◌, Bool, true, false, if◌then◌else◌, List, [], ◌∷◌, ◌++◌, refl, sym, ◌∙◌, ap, subst, arith}
use Rattle.std.proofs.lemmas.Bool.Decides.{nat_tests}
use Rattle.tp4_number.specs.Number.{wire}
use Rattle.tp4_flow.specs.declared.step.What.TheVariants as whats
use Rattle.tpdu.specs.declared.service.EndTold.TheVariants.{Urgent}
use Rattle.tp4_flow.specs.ReceivingHalf.{Half, Received, Receives, block_in, taken_ed, is_next, is_before, ea}
use Rattle.tp4_flow.specs.Told.{Told}
use Rattle.tp4_flow.proofs.Joinings.{append_none}
use Rattle.tp4_flow.proofs.Wires.{wire_low}

same_test : (a b : ℕ) → a ≡ b → (a == b) ≡ true
same_test a b e = grind (arith, nat_tests)

-- what a call answers and does
pub record TakesUrgent (old : Half) (w : ℕ) (octets : List ℕ) (next : Bool) (new : Half) (was is : Told) : Type 0 where
  pub answer : next ≡ is_next old w
  pub step : Receives (taken_ed wire old w octets) new was is

-- what an ED does, by the two tests
abbrev ed_by : Half → ℕ → List ℕ → Bool → Bool → Received
ed_by old w octets next before = record {
  half = if next then record old { receiver = record old.receiver { urgent = wire (block_in old) (old.receiver.urgent + 1) } } else old;
  events = if next then record { reference = old.rules.own; what = whats.End (Urgent octets) } ∷ [] else [];
  tpdus = if next || before then ea old w ∷ [] else [];
}

by_tests : (old : Half) (w : ℕ) (octets : List ℕ) (next before : Bool) (new : Half) (was is : Told) → is_next old w ≡ next → is_before old w ≡ before
    → Receives (ed_by old w octets next before) new was is → TakesUrgent old w octets next new was is
by_tests old w octets next before new was is n b r = record {
  answer = sym n;
  step = subst (λ (x : Bool). Receives (ed_by old w octets x (is_before old w)) new was is) (sym n)
      (subst (λ (x : Bool). Receives (ed_by old w octets next x) new was is) (sym b) r);
}

pub urgent_next : (old : Half) (w : ℕ) (octets : List ℕ) (was is : Told) → old.receiver.urgent < 4 * block_in old → w ≡ old.receiver.urgent
    → is ≡ record { events = was.events ++ record { reference = old.rules.own; what = whats.End (Urgent octets) } ∷ []; tpdus = was.tpdus ++ ea old w ∷ [] }
    → TakesUrgent old w octets true (record old { receiver = record old.receiver { urgent = (old.receiver.urgent + 1) % (4 * block_in old) } }) was is
unfolding wire
urgent_next old w octets was is low e t =
    by_tests old w octets true (is_before old w) (record old { receiver = record old.receiver { urgent = (old.receiver.urgent + 1) % (4 * block_in old) } }) was is
    (same_test w (wire (block_in old) old.receiver.urgent) (e ∙ sym (wire_low (block_in old) old.receiver.urgent low))) refl
    (record { half_is = refl; told = t })

pub urgent_other : (old : Half) (w : ℕ) (octets : List ℕ) (before : Bool) (was is : Told) → old.receiver.urgent < 4 * block_in old
    → (w == old.receiver.urgent) ≡ false → (wire (block_in old) (w + 1) == old.receiver.urgent) ≡ before
    → is ≡ record was { tpdus = was.tpdus ++ (if before then ea old w ∷ [] else []) }
    → TakesUrgent old w octets false old was is
urgent_other old w octets before was is low n b t =
    by_tests old w octets false before old was is
    (ap (λ (u : ℕ). w == u) (wire_low (block_in old) old.receiver.urgent low) ∙ n)
    (ap (λ (u : ℕ). wire (block_in old) (w + 1) == u) (wire_low (block_in old) old.receiver.urgent low) ∙ b)
    (record { half_is = refl; told = t ∙ (λ i. record { events = sym (append_none was.events) i; tpdus = was.tpdus ++ (if before then ea old w ∷ [] else []) }) })
