-- When the ends of each entity are due, as one entity changes: what holds of those that are found by their systems holds again. The
-- systems may repeat; then the entity of a system is the first, and it alone is called.
use Rattle.std.proofs.Common.{◌≡◌, nat_lt, ℕ, zero, suc, ◌+◌, ◌<◌, ◌≤◌, ◌⊎◌, Bool, true, false, cond, List, [], ◌∷◌, length, slice_get, option_map, Some, inl, inr, refl, sym, ◌∙◌, ap, subst, arith}
use Rattle.std.specs.List.{AllByRecursion, find, position}
use Rattle.std.proofs.lemmas.Bool.{eqb-true, ltb-false, ltb-true}
use Rattle.tp4_entity.specs.Dues.{AreFrom, AreLater}
use Rattle.tp4_entity.specs.Entity.{Entity}
use Rattle.tp4_entity.proofs.Dues.{later_from, later_next}
use Rattle.tp4_world.proofs.Entities.{changed_there, entity_there, with_found}
use Rattle.tp4_world.proofs.Having.{with_any}
use Rattle.tp4_world.proofs.Places.{some_same}
use Rattle.tp4_world.specs.World.{entity_at, is_of, with_entity}
use Rattle.tp4_world.specs.declared.place.Placed.{Placed}
use Rattle.tp4_world.specs.steps.Parts.{AreFromAll, AreLaterAll, AreLaterAt, ChangesAt, systems_of}

pub later_from_all : (now : ℕ) (placed : List Placed) → AreLaterAll now placed → AreFromAll now placed
later_from_all now placed later system entity there = later_from now entity.ends (later system entity there)

-- at the next tick
pub later_next_all : (now next : ℕ) (placed : List Placed) → next ≡ now + 1 → AreLaterAll now placed → AreFromAll next placed
later_next_all now next placed is later system entity there = subst (λ (n : ℕ). AreFrom n entity.ends) (sym is) (later_next now entity.ends (later system entity there))

-- where it is so of each entity in turn
pub each_later : (now : ℕ) (placed : List Placed) → AllByRecursion (λ (one : Placed). AreLater now one.entity.ends) placed → AreLaterAll now placed
each_later now [] all system entity there = absurd cc
each_later now (one ∷ placed) all system entity there = by (is_of system one) there (each_later now placed all.1 system entity)
  where
    by : (here : Bool) → option_map (λ (x : Placed). x.entity) (cond here (Some one) (find (is_of system) placed)) ≡ Some entity
        → (entity_at placed system ≡ Some entity → AreLater now entity.ends) → AreLater now entity.ends
    by true there rest = subst (λ (e : Entity). AreLater now e.ends) (some_same one.entity entity there) all.0
    by false there rest = rest there

-- the entity at the place of a system
pub from_place : (now : ℕ) (placed : List Placed) (system place : ℕ) (one : Placed) → AreFromAll now placed → position (is_of system) placed ≡ Some place → slice_get placed place ≡ Some one → AreFrom now one.entity.ends
from_place now placed system place one from found at = from system one.entity (entity_there placed system place one found at)

pub later_place : (now : ℕ) (placed : List Placed) (system place : ℕ) (one : Placed) → AreLaterAll now placed → position (is_of system) placed ≡ Some place → slice_get placed place ≡ Some one → AreFrom now one.entity.ends
later_place now placed system place one later found at = from_place now placed system place one (later_from_all now placed later) found at

-- an entity is the one that changed, or was there
changed_any : (placed changed : List Placed) (system place other : ℕ) (Does : Entity → Entity → Type 0) (entity : Entity) → position (is_of system) placed ≡ Some place
    → (change : ChangesAt place placed changed Does) → entity_at changed other ≡ Some entity → ((other ≡ system) × (entity ≡ change.after)) ⊎ (entity_at placed other ≡ Some entity)
changed_any placed changed system place other Does entity found change there =
    let is : changed ≡ with_entity placed system change.after = change.becomes ∙ sym (changed_there placed system place change.one change.after found change.at) in
    with_any placed system other change.after entity (ap (λ (ps : List Placed). entity_at ps other) (sym is) ∙ there)

pub kept_changed : (now : ℕ) (placed changed : List Placed) (system place : ℕ) → position (is_of system) placed ≡ Some place
    → ChangesAt place placed changed (λ before after. AreLater now before.ends → AreLater now after.ends) → (other : ℕ) → AreLaterAt now placed other → AreLaterAt now changed other
kept_changed now placed changed system place found change other later entity there =
    elim (changed_any placed changed system place other _ entity found change there) [
      | inl here ↦ subst (λ (e : Entity). AreLater now e.ends) (sym here.1)
          (change.does (later change.one.entity (ap (entity_at placed) here.0 ∙ entity_there placed system place change.one found change.at)))
      | inr kept ↦ later entity kept
    ]

pub later_changed : (now : ℕ) (placed changed : List Placed) (system place : ℕ) → position (is_of system) placed ≡ Some place → AreLaterAll now placed
    → ChangesAt place placed changed (λ before after. AreLater now before.ends → AreLater now after.ends) → AreLaterAll now changed
later_changed now placed changed system place found later change other = kept_changed now placed changed system place found change other (later other)

pub rested_all : (now : ℕ) (placed changed : List Placed) (system place : ℕ) → position (is_of system) placed ≡ Some place → AreLaterAll now placed
    → ChangesAt place placed changed (λ before after. AreLater now after.ends) → AreLaterAll now changed
rested_all now placed changed system place found later change other entity there =
    elim (changed_any placed changed system place other _ entity found change there) [
      | inl here ↦ subst (λ (e : Entity). AreLater now e.ends) (sym here.1) change.does
      | inr kept ↦ later other entity kept
    ]

pub from_changed : (now : ℕ) (placed changed : List Placed) (system place : ℕ) → position (is_of system) placed ≡ Some place → AreFromAll now placed
    → ChangesAt place placed changed (λ before after. AreFrom now after.ends) → AreFromAll now changed
from_changed now placed changed system place found from change other entity there =
    elim (changed_any placed changed system place other _ entity found change there) [
      | inl here ↦ subst (λ (e : Entity). AreFrom now e.ends) (sym here.1) change.does
      | inr kept ↦ from other entity kept
    ]

-- the entity of that system
pub rest_changed : (now : ℕ) (placed changed : List Placed) (system place : ℕ) → position (is_of system) placed ≡ Some place
    → ChangesAt place placed changed (λ before after. AreLater now after.ends) → AreLaterAt now changed system
rest_changed now placed changed system place found change entity there =
    let is : changed ≡ with_entity placed system change.after = change.becomes ∙ sym (changed_there placed system place change.one change.after found change.at) in
    let here : entity_at changed system ≡ Some change.after =
    ap (λ (ps : List Placed). entity_at ps system) is ∙ with_found placed system change.one.entity change.after (entity_there placed system place change.one found change.at) in
    subst (λ (e : Entity). AreLater now e.ends) (some_same change.after entity (sym here ∙ there)) change.does

-- ---- entity by entity

pub later_more : (now : ℕ) (placed changed : List Placed) (systems : List ℕ) (place system : ℕ) → slice_get systems place ≡ Some system
    → ((k other : ℕ) → k < place → slice_get systems k ≡ Some other → AreLaterAt now placed other) → ((other : ℕ) → AreLaterAt now placed other → AreLaterAt now changed other)
    → AreLaterAt now changed system → (k other : ℕ) → k < place + 1 → slice_get systems k ≡ Some other → AreLaterAt now changed other
later_more now placed changed systems place system at before kept here k other low get = by (nat_lt k place) refl
  where
    by : (b : Bool) → nat_lt k place ≡ b → AreLaterAt now changed other
    by true is = kept other (before k other (ltb-true k place is) get)
    by false is =
        let past = ltb-false k place is in
        let same : k ≡ place = omega (arith, past, low) in
        subst (λ (s : ℕ). AreLaterAt now changed s) (some_same system other (sym at ∙ ap (slice_get systems) (sym same) ∙ get)) here

-- the system of an entity is one of the systems
system_of : (placed : List Placed) (system : ℕ) (entity : Entity) → entity_at placed system ≡ Some entity → (k : ℕ) × (k < length (systems_of placed)) × (slice_get (systems_of placed) k ≡ Some system)
system_of [] system entity there = absurd cc
system_of (one ∷ placed) system entity there = by (is_of system one) refl there (system_of placed system entity)
  where
    by : (here : Bool) → is_of system one ≡ here → option_map (λ (x : Placed). x.entity) (cond here (Some one) (find (is_of system) placed)) ≡ Some entity
        → (entity_at placed system ≡ Some entity → (k : ℕ) × (k < length (systems_of placed)) × (slice_get (systems_of placed) k ≡ Some system))
        → (k : ℕ) × (k < length (systems_of (one ∷ placed))) × (slice_get (systems_of (one ∷ placed)) k ≡ Some system)
    by true is there rest = (zero, omega arith, ap (λ (s : ℕ). Some s) (eqb-true one.system system is))
    by false is there rest = let found = rest there in (suc found.0, omega (arith, found.1), found.2)

pub later_each : (now : ℕ) (placed changed : List Placed) (place : ℕ) → systems_of changed ≡ systems_of placed → length (systems_of placed) ≤ place
    → ((k other : ℕ) → k < place → slice_get (systems_of placed) k ≡ Some other → AreLaterAt now changed other) → AreLaterAll now changed
later_each now placed changed place same whole all system entity there =
    let is = system_of changed system entity there in
    let size : length (systems_of changed) ≡ length (systems_of placed) = ap (λ (ss : List ℕ). length ss) same in
    all is.0 system (omega (arith, is.1, size, whole)) (ap (λ (ss : List ℕ). slice_get ss is.0) (sym same) ∙ is.2) entity there
