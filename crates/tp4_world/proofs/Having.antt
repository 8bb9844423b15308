-- The entity of a system, before and after another stands there.
use Rattle.std.proofs.Common.{◌≡◌, ℕ, ◌⊎◌, ◌==◌, Bool, true, false, if◌then◌else◌, cond, List, [], ◌∷◌, ◌||◌, Option, Some, None, refl, sym, ◌∙◌, ap, inl, inr, arith}
use Rattle.std.specs.Prelude.{is_some, option_map}
use Rattle.std.specs.List.{find, list_any}
use Rattle.std.proofs.lemmas.Bool.{eqb-true}
use Rattle.std.proofs.lemmas.Option.{none-some}
use Rattle.tp4_entity.specs.Entity.{Entity}
use Rattle.tp4_world.specs.World.{entity_at, is_of, with_entity}
use Rattle.tp4_world.specs.declared.place.Placed.{Placed}
use Rattle.tp4_world.proofs.Places.{some_same}

entity_of : Option Placed → Option Entity
entity_of found = option_map (λ one. one.entity) found

abbrev then_at : Bool → Placed → List Placed → ℕ → Option Entity
then_at here one others system = option_map (λ (x : Placed). x.entity) (cond here (Some one) (find (is_of system) others))

-- at its system stands the new one
pub with_first : (entities : List Placed) (system : ℕ) (new e : Entity) → entity_at entities system ≡ Some e → entity_at (with_entity entities system new) system ≡ Some new
with_first [] system new e is = absurd (none-some e is)
with_first (one ∷ entities) system new e is = by_first (is_of system one) refl is (with_first entities system new e)
  where
    by_first : (here : Bool) → is_of system one ≡ here → then_at here one entities system ≡ Some e → (entity_at entities system ≡ Some e → entity_at (with_entity entities system new) system ≡ Some new)
        → entity_at (if here then record one { entity = new } ∷ entities else one ∷ with_entity entities system new) system ≡ Some new
    by_first true at is rest = ap (λ (b : Bool). then_at b (record one { entity = new }) entities system) at
    by_first false at is rest = ap (λ (b : Bool). then_at b one (with_entity entities system new) system) at ∙ rest is

-- at each system stands the new one, or what stood there
pub with_any : (entities : List Placed) (system other : ℕ) (new x : Entity) → entity_at (with_entity entities system new) other ≡ Some x
    → ((other ≡ system) × (x ≡ new)) ⊎ (entity_at entities other ≡ Some x)
with_any [] system other new x is = inr is
with_any (one ∷ entities) system other new x is = by_first (is_of system one) (is_of other one) refl refl is (with_any entities system other new x)
  where
    by_first : (here there : Bool) → is_of system one ≡ here → is_of other one ≡ there
        → entity_at (if here then record one { entity = new } ∷ entities else one ∷ with_entity entities system new) other ≡ Some x
        → (entity_at (with_entity entities system new) other ≡ Some x → ((other ≡ system) × (x ≡ new)) ⊎ (entity_at entities other ≡ Some x))
        → ((other ≡ system) × (x ≡ new)) ⊎ (then_at there one entities other ≡ Some x)
    by_first true true at at_other is rest =
        let first : Some new ≡ Some x = sym (ap (λ (b : Bool). then_at b (record one { entity = new }) entities other) at_other) ∙ is in
        inl (both at at_other, sym (some_same new x first))
      where
        both : (one.system == system) ≡ true → (one.system == other) ≡ true → other ≡ system
        both a b = grind arith
    by_first true false at at_other is rest = inr (sym (ap (λ (b : Bool). then_at b (record one { entity = new }) entities other) at_other) ∙ is)
    by_first false true at at_other is rest = inr (sym (ap (λ (b : Bool). then_at b one (with_entity entities system new) other) at_other) ∙ is)
    by_first false false at at_other is rest = rest (sym (ap (λ (b : Bool). then_at b one (with_entity entities system new) other) at_other) ∙ is)

-- at another system nothing changes
pub with_other : (entities : List Placed) (system other : ℕ) (new : Entity) → (other == system) ≡ false → entity_at (with_entity entities system new) other ≡ entity_at entities other
with_other [] system other new apart = refl
with_other (one ∷ entities) system other new apart = by_first (is_of system one) (is_of other one) refl refl (with_other entities system other new apart)
  where
    by_first : (here there : Bool) → is_of system one ≡ here → is_of other one ≡ there → entity_at (with_entity entities system new) other ≡ entity_at entities other
        → entity_at (if here then record one { entity = new } ∷ entities else one ∷ with_entity entities system new) other ≡ then_at there one entities other
    by_first true true at at_other rest = absurd (both at at_other apart)
      where
        both : (one.system == system) ≡ true → (one.system == other) ≡ true → (other == system) ≡ false → ⊥
        both a b c = grind arith
    by_first true false at at_other rest = ap (λ (b : Bool). then_at b (record one { entity = new }) entities other) at_other
    by_first false true at at_other rest = ap (λ (b : Bool). then_at b one (with_entity entities system new) other) at_other
    by_first false false at at_other rest = ap (λ (b : Bool). then_at b one (with_entity entities system new) other) at_other ∙ rest

-- where an entity is found, the system is one of these
pub found_any : (entities : List Placed) (system : ℕ) (e : Entity) → entity_at entities system ≡ Some e → list_any (is_of system) entities ≡ true
found_any [] system e is = absurd (none-some e is)
found_any (one ∷ entities) system e is = by_first (is_of system one) is (found_any entities system e)
  where
    by_first : (here : Bool) → then_at here one entities system ≡ Some e → (entity_at entities system ≡ Some e → list_any (is_of system) entities ≡ true) → (here || list_any (is_of system) entities) ≡ true
    by_first true is rest = refl
    by_first false is rest = rest is

-- what is there
pub found : {A : Type 0} (o : Option A) → is_some o ≡ true → (x : A) × (o ≡ Some x)
found None h = absurd cc
found (Some x) h = (x, refl)

-- where there was an entity there is one
pub with_some : (entities : List Placed) (system other : ℕ) (new : Entity) → is_some (entity_at entities other) ≡ true → is_some (entity_at (with_entity entities system new) other) ≡ true
with_some entities system other new h = by (other == system) refl
  where
    by : (b : Bool) → (other == system) ≡ b → is_some (entity_at (with_entity entities system new) other) ≡ true
    by false apart = ap (λ (o : Option Entity). is_some o) (with_other entities system other new apart) ∙ h
    by true same =
        let e = found (entity_at entities other) h in
        let is : other ≡ system = eqb-true other system same in
        ap (λ (o : Option Entity). is_some o) (ap (entity_at (with_entity entities system new)) is ∙ with_first entities system new e.0 (ap (entity_at entities) (sym is) ∙ e.1))
