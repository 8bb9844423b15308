-- Options that are the same; of two entities that are put at a system one after the other the last one stands.
use Rattle.std.proofs.Common.{◌≡◌, ℕ, Bool, true, false, if◌then◌else◌, List, [], ◌∷◌, Some, None, refl, ◌∙◌, ap}
use Rattle.tp4_entity.specs.Entity.{Entity}
use Rattle.tp4_world.specs.World.{is_of, with_entity}
use Rattle.tp4_world.specs.declared.place.Placed.{Placed}

pub some_same : {A : Type 0} (x y : A) → Some x ≡ Some y → x ≡ y
some_same x y is = cc is

pub none_some : {A : Type 0} (x : A) → None ≡ Some x → ⊥
none_some x is = absurd cc

-- the last one stands
pub with_again : (entities : List Placed) (system : ℕ) (first new : Entity) → with_entity (with_entity entities system first) system new ≡ with_entity entities system new
with_again [] system first new = refl
with_again (one ∷ entities) system first new = by_first (is_of system one) refl (with_again entities system first new)
  where
    by_first : (here : Bool) → is_of system one ≡ here → with_entity (with_entity entities system first) system new ≡ with_entity entities system new
        → with_entity (if here then record one { entity = first } ∷ entities else one ∷ with_entity entities system first) system new
        ≡ (if here then record one { entity = new } ∷ entities else one ∷ with_entity entities system new)
    by_first true at rest = ap (λ (b : Bool). if b then record one { entity = new } ∷ entities else record one { entity = first } ∷ with_entity entities system new) at
    by_first false at rest =
        ap (λ (b : Bool). if b then record one { entity = new } ∷ with_entity entities system first else one ∷ with_entity (with_entity entities system first) system new) at
        ∙ ap (λ (others : List Placed). one ∷ others) rest
