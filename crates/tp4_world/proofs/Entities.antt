-- The entity of a system stands at the first place of that system.
use Rattle.std.proofs.Common.{◌≡◌, ℕ, zero, suc, ◌+◌, ◌==◌, nat_lt, not, Bool, true, false, if◌then◌else◌, List, [], ◌∷◌, length, slice_get, slice_set, take, cond, Option, Some, None, refl, sym, ◌∙◌, ap, subst, arith}
use Rattle.std.specs.Prelude.{is_some, option_map}
use Rattle.std.specs.List.{find, list_any, position, position_or_len}
use Rattle.tp4_entity.specs.Entity.{Entity}
use Rattle.osi_base.proofs.Firsts.{first_at}
use Rattle.tp4_world.proofs.Places.{first_is_some, found_at, no_first, none_passes, some_same}
use Rattle.tp4_world.specs.World.{entity_at, is_of, with_entity}
use Rattle.tp4_world.specs.declared.place.Placed.{Placed}
use Rattle.tp4_world.specs.steps.Parts.{systems_of}

pub no_entity : (placed : List Placed) (system : ℕ) → position (is_of system) placed ≡ None → entity_at placed system ≡ None
no_entity placed system none = ap (option_map (λ (one : Placed). one.entity)) (no_first (is_of system) placed none)

pub entity_there : (placed : List Placed) (system place : ℕ) (one : Placed) → position (is_of system) placed ≡ Some place → slice_get placed place ≡ Some one → entity_at placed system ≡ Some one.entity
entity_there placed system place one found at =
    let first = first_at (is_of system) placed place one found at in
    ap (option_map (λ (o : Placed). o.entity)) (found_at (is_of system) placed place one at first.passes first.before)

with_there : (placed : List Placed) (system place : ℕ) (one : Placed) (after : Entity) → slice_get placed place ≡ Some one → is_of system one ≡ true → list_any (is_of system) (take place placed) ≡ false
    → with_entity placed system after ≡ slice_set placed place (record one { entity = after })
with_there [] system place one after at passes before = absurd cc
with_there (x ∷ placed) system zero one after at passes before =
    let same : x ≡ one = some_same x one at in
    ap (λ (b : Bool). if b then record x { entity = after } ∷ placed else x ∷ with_entity placed system after) (subst (λ (y : Placed). is_of system y ≡ true) (sym same) passes)
    ∙ ap (λ (y : Placed). record y { entity = after } ∷ placed) same
with_there (x ∷ placed) system (suc place) one after at passes before =
    let h = none_passes (is_of system x) (list_any (is_of system) (take place placed)) before in
    ap (λ (b : Bool). if b then record x { entity = after } ∷ placed else x ∷ with_entity placed system after) h.first_fails
    ∙ ap (λ (others : List Placed). x ∷ others) (with_there placed system place one after at passes h.rest_fails)

pub changed_there : (placed : List Placed) (system place : ℕ) (one : Placed) (after : Entity) → position (is_of system) placed ≡ Some place → slice_get placed place ≡ Some one
    → with_entity placed system after ≡ slice_set placed place (record one { entity = after })
changed_there placed system place one after found at =
    let first = first_at (is_of system) placed place one found at in
    with_there placed system place one after at first.passes first.before

-- the entity of a system is what it became
pub with_found : (placed : List Placed) (system : ℕ) (was after : Entity) → entity_at placed system ≡ Some was → entity_at (with_entity placed system after) system ≡ Some after
with_found [] system was after there = absurd cc
with_found (one ∷ placed) system was after there = by_first (is_of system one) refl there (with_found placed system was after)
  where
    by_first : (here : Bool) → is_of system one ≡ here → option_map (λ (x : Placed). x.entity) (cond here (Some one) (find (is_of system) placed)) ≡ Some was
        → (entity_at placed system ≡ Some was → entity_at (with_entity placed system after) system ≡ Some after)
        → entity_at (if here then record one { entity = after } ∷ placed else one ∷ with_entity placed system after) system ≡ Some after
    by_first true is there rest = ap (λ (b : Bool). option_map (λ (x : Placed). x.entity) (cond b (Some (record one { entity = after })) (find (is_of system) placed))) is
    by_first false is there rest =
        ap (λ (b : Bool). option_map (λ (x : Placed). x.entity) (cond b (Some one) (find (is_of system) (with_entity placed system after)))) is ∙ rest there

-- a system keeps its place
pub systems_stay : (placed : List Placed) (place : ℕ) (one : Placed) (after : Entity) → slice_get placed place ≡ Some one → systems_of (slice_set placed place (record one { entity = after })) ≡ systems_of placed
systems_stay [] place one after at = absurd cc
systems_stay (x ∷ placed) zero one after at = ap (λ (y : Placed). y.system ∷ systems_of placed) (sym (some_same x one at))
systems_stay (x ∷ placed) (suc place) one after at = ap (λ (others : List ℕ). x.system ∷ others) (systems_stay placed place one after at)

pub system_there : (placed : List Placed) (place : ℕ) → slice_get (systems_of placed) place ≡ option_map (λ (one : Placed). one.system) (slice_get placed place)
system_there [] place = refl
system_there (x ∷ placed) zero = refl
system_there (x ∷ placed) (suc place) = system_there placed place

pub systems_count : (placed : List Placed) → length (systems_of placed) ≡ length placed
systems_count [] = refl
systems_count (x ∷ placed) = ap suc (systems_count placed)

pub entity_some : (placed : List Placed) (system : ℕ) → is_some (position (is_of system) placed) ≡ is_some (entity_at placed system)
entity_some placed system = by_place (position (is_of system) placed) refl
  where
    by_place : (place : Option ℕ) → position (is_of system) placed ≡ place → is_some place ≡ is_some (entity_at placed system)
    by_place None is = sym (ap is_some (no_entity placed system is))
    by_place (Some place) is =
        let there = first_is_some (is_of system) placed place is in
        sym (ap is_some (entity_there placed system place there.0 is there.1))

-- a system that has an entity has a place
pub listed_place : (placed : List Placed) (system : ℕ) → is_some (entity_at placed system) ≡ true → position (is_of system) placed ≡ None → ⊥
listed_place placed system listed none = let gone : false ≡ true = ap is_some (sym (no_entity placed system none)) ∙ listed in cc

pub system_read : (placed read : List Placed) (place : ℕ) (o : Option Placed) → read ≡ placed → o ≡ slice_get read place → option_map (λ (one : Placed). one.system) o ≡ slice_get (systems_of placed) place
system_read placed read place o same is =
    ap (option_map (λ (one : Placed). one.system)) (is ∙ ap (λ (ps : List Placed). slice_get ps place) same) ∙ sym (system_there placed place)

-- a system has its place in the list of the systems
at_system : (placed : List Placed) (system : ℕ) → position_or_len (is_of system) placed ≡ position_or_len (λ (other : ℕ). other == system) (systems_of placed)
at_system [] system = refl
at_system (one ∷ placed) system = ap (λ (n : ℕ). cond (not (one.system == system)) (1 + n) 0) (at_system placed system)

place_by : (placed : List Placed) (system : ℕ) → position (is_of system) placed ≡ position (λ (other : ℕ). other == system) (systems_of placed)
place_by placed system =
    ap (λ (n : ℕ). cond (nat_lt n (length placed)) (Some n) None) (at_system placed system)
    ∙ ap (λ (count : ℕ). cond (nat_lt (position_or_len (λ (other : ℕ). other == system) (systems_of placed)) count) (Some (position_or_len (λ (other : ℕ). other == system) (systems_of placed))) None)
    (sym (systems_count placed))

-- with the same systems each keeps its place
pub place_kept : (placed changed : List Placed) (system place : ℕ) → systems_of changed ≡ systems_of placed → position (is_of system) placed ≡ Some place → position (is_of system) changed ≡ Some place
place_kept placed changed system place same is =
    place_by changed system ∙ ap (position (λ (other : ℕ). other == system)) same ∙ sym (place_by placed system) ∙ is

-- the system at a place has an entity
pub listed_there : (placed : List Placed) (place system : ℕ) → slice_get (systems_of placed) place ≡ Some system → is_some (entity_at placed system) ≡ true
listed_there [] place system at = absurd cc
listed_there (one ∷ placed) zero system at = by (one.system == system) (tells one.system system (some_same one.system system at))
  where
    tells : (x y : ℕ) → x ≡ y → (x == y) ≡ true
    tells x y e = grind arith

    by : (here : Bool) → here ≡ true → is_some (option_map (λ (x : Placed). x.entity) (cond here (Some one) (find (is_of system) placed))) ≡ true
    by true is = refl
    by false is = absurd cc
listed_there (one ∷ placed) (suc place) system at = by (one.system == system) (listed_there placed place system at)
  where
    by : (here : Bool) → is_some (entity_at placed system) ≡ true → is_some (option_map (λ (x : Placed). x.entity) (cond here (Some one) (find (is_of system) placed))) ≡ true
    by true rest = refl
    by false rest = rest

-- as many entities, where the systems are the same
pub as_many : (placed changed : List Placed) → systems_of changed ≡ systems_of placed → length changed ≡ length placed
as_many placed changed same = sym (systems_count changed) ∙ ap (λ (ss : List ℕ). length ss) same ∙ systems_count placed
