-- Two systems, of which one does something: the first that passes a test of its own is that one, and the other stays as it is.
use Rattle.std.proofs.Common.{◌≡◌, ℕ, Bool, true, false, ◌||◌, List, [], ◌∷◌, ◌++◌, refl, sym, ◌∙◌, ap, subst}
use Rattle.std.specs.List.{list_any}
use Rattle.osi_base.specs.declared.unit.Arrival.{Arrival}
use Rattle.nsap.specs.declared.port.Port.{Port}
use Rattle.esis_tables.specs.Rows.{Rows}
use Rattle.clnp_system.specs.Setting.{Setting}
use Rattle.clnp_system.specs.Node.{Frame, Node, Reaction}
use Rattle.clnp_system.specs.Receiving.{Receives}
use Rattle.clnp_system.specs.Tables.{rows_tables}
use Rattle.law_clnp_step.specs.Handling.{Changes, IsReceived, Nobody, Somebody, is_system}
use Rattle.clnp_segment.proofs.Lists.{one_place}

-- a system with that setting, which knows of no other
pub record IsCalmNode (setting : Setting) (node : Node Rows) : Type 0 where
  pub setup : node.setup ≡ setting
  pub neighbours : node.neighbours.rows ≡ []
  pub redirects : node.redirects.rows ≡ []

module _ {N : Type 0} (test : Node N → Bool) (one two node after : Node N) (changed : List (Node N)) (changes : Changes test (one ∷ two ∷ []) node after changed) where
  -- the first, where it passes
  pub changes_first : test one ≡ true → (node ≡ one) × (changed ≡ after ∷ two ∷ [])
  changes_first passes =
      let same = one_place test changes.before [] node one changes.behind (two ∷ []) (sym changes.stands) changes.passes passes changes.none_before refl in
      (same.1, changes.becomes ∙ (λ i. same.0 i ++ after ∷ same.2 i))

  -- the second, where the first does not
  pub changes_second : test one ≡ false → test two ≡ true → (node ≡ two) × (changed ≡ one ∷ after ∷ [])
  changes_second fails passes =
      let none : (test one || false) ≡ false = ap (λ (b : Bool). b || false) fails in
      let same = one_place test changes.before (one ∷ []) node two changes.behind [] (sym changes.stands) changes.passes passes changes.none_before none in
      (same.1, changes.becomes ∙ (λ i. same.0 i ++ after ∷ same.2 i))

-- ---- an arrival at one of the two

-- the system of the arrival takes it, and becomes this one
pub record IsTakenBy (now : ℕ) (node : Node Rows) (frame : Frame) (reaction : Reaction) (changed : List (Node Rows)) (become : Node Rows → List (Node Rows)) : Type 0 where
  pub after : Node Rows
  pub receives : Receives rows_tables node now frame reaction after
  pub changed_is : changed ≡ become after

module _ (now : ℕ) (one two : Node Rows) (arrival : Arrival Port) (reaction : Reaction) (changed : List (Node Rows)) where
  pub first_takes : is_system arrival.system one ≡ true → IsReceived rows_tables now (one ∷ two ∷ []) arrival reaction changed
      → IsTakenBy now one arrival.unit reaction changed (λ after. after ∷ two ∷ [])
  first_takes here (Nobody none is same) =
      let some : list_any (is_system arrival.system) (one ∷ two ∷ []) ≡ true = ap (λ (b : Bool). b || list_any (is_system arrival.system) (two ∷ [])) here in
      absurd cc
  first_takes here (Somebody node after changes receives) =
      let same = changes_first (is_system arrival.system) one two node after changed changes here in
      record {
        after = after;
        receives = subst (λ (n : Node Rows). Receives rows_tables n now arrival.unit reaction after) same.0 receives;
        changed_is = same.1;
      }

  pub second_takes : is_system arrival.system one ≡ false → is_system arrival.system two ≡ true → IsReceived rows_tables now (one ∷ two ∷ []) arrival reaction changed
      → IsTakenBy now two arrival.unit reaction changed (λ after. one ∷ after ∷ [])
  second_takes other here (Nobody none is same) =
      let some : list_any (is_system arrival.system) (one ∷ two ∷ []) ≡ true = λ i. other i || (here i || false) in
      absurd cc
  second_takes other here (Somebody node after changes receives) =
      let same = changes_second (is_system arrival.system) one two node after changed changes other here in
      record {
        after = after;
        receives = subst (λ (n : Node Rows). Receives rows_tables n now arrival.unit reaction after) same.0 receives;
        changed_is = same.1;
      }
