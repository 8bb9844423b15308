-- One entity of a network, and one end of an entity, is another now: the others stay.
use Rattle.std.proofs.Common.{◌≡◌, ◌≢◌, inl, inr, ℕ, ◌-◌, ◌==◌, Bool, true, false, if◌then◌else◌, List, [], ◌∷◌, length, slice_get, Option, Some, None, refl, sym, ◌∙◌, ap, arith}
use Rattle.std.specs.Prelude.{option_map}
use Rattle.std.specs.List.{find}
use Rattle.std.proofs.lemmas.Bool.{cases_eq, eqb-true, ne_eqb}
use Rattle.tp4_number.proofs.Past.{if_kept}
use Rattle.tp4_conn.specs.End.{End}
use Rattle.tp4_entity.specs.Entity.{Entity, end_at, there, with_end}
use Rattle.tp4_entity.proofs.Standings.{within}
use Rattle.tp4_world.specs.World.{entity_at, is_of, with_entity}
use Rattle.tp4_world.specs.declared.place.Placed.{Placed}
use Rattle.tp4_world.proofs.Entities.{with_found}
use Rattle.law_tp4_lawful.proofs.Acting.{IsLike}
use Rattle.law_tp4_lawful.proofs.MakesPlaces.{at_other, at_same}

-- ---- ends

-- entities with the same ends
pub same_ends : (one other : Entity) → other.ends ≡ one.ends → (reference : ℕ) → end_at other reference ≡ end_at one reference
same_ends one other same reference = ap (λ (ends : List (Option End)). if reference == 0 then None else there (slice_get ends (reference - 1))) same

module _ (now : ℕ) (entity other : Entity) (like : IsLike now entity other) (reference : ℕ) (e : End) (is : end_at entity reference ≡ Some e) (place : Option End) where
  pub place_there : end_at (with_end other reference place) reference ≡ place
  place_there = let w = within entity reference e is in at_same other reference place w.least (omega (arith, w.most, ap length like.ends))

  pub place_other : (r : ℕ) → r ≢ reference → end_at (with_end other reference place) r ≡ end_at entity r
  place_other r apart = let w = within entity reference e is in at_other other reference r place w.least apart ∙ same_ends entity other like.ends r

-- ---- entities

abbrev entity_of : Option Placed → Option Entity
entity_of found = option_map (λ (one : Placed). one.entity) found

abbrev found_in : Bool → Placed → List Placed → ℕ → Option Entity
found_in b one placed system = entity_of (if b then Some one else find (is_of system) placed)

pub entity_other : (placed : List Placed) (system other : ℕ) (new : Entity) → other ≢ system → entity_at (with_entity placed system new) other ≡ entity_at placed other
entity_other [] system other new apart = refl
entity_other (one ∷ placed) system other new apart =
    if_kept (λ (all : List Placed). entity_at all other ≡ entity_at (one ∷ placed) other) (is_of system one) (record one { entity = new } ∷ placed) (one ∷ with_entity placed system new)
    (λ h. let no : is_of other one ≡ false = ne_eqb one.system other (λ same. apart (sym same ∙ eqb-true one.system system h)) in
    ap (λ (b : Bool). found_in b (record one { entity = new }) placed other) no ∙ sym (ap (λ (b : Bool). found_in b one placed other) no))
    (λ h. by (is_of other one) (entity_other placed system other new apart))
  where
    by : (b : Bool) → entity_at (with_entity placed system new) other ≡ entity_at placed other → found_in b one (with_entity placed system new) other ≡ found_in b one placed other
    by true rest = refl
    by false rest = rest

-- an entity of that system is at this address
pub record Owner (placed : List Placed) (system : ℕ) (own : List ℕ) : Type 0 where
  pub entity : Entity
  pub is : entity_at placed system ≡ Some entity
  pub own_is : entity.own ≡ own

-- and it began again at the same tick, or as little
pub record Before (placed : List Placed) (system : ℕ) (entity : Entity) : Type 0 where
  pub owner : Owner placed system entity.own
  pub began : entity.restarted ≡ owner.entity.restarted

-- both have entities of the same systems, with the same addresses; none began again
pub record AreOwners (old new : List Placed) : Type 0 where
  pub on : (system : ℕ) (entity : Entity) → entity_at old system ≡ Some entity → Owner new system entity.own
  pub back : (system : ℕ) (entity : Entity) → entity_at new system ≡ Some entity → Before old system entity

pub owners_same : (placed : List Placed) → AreOwners placed placed
owners_same placed = record { on = λ system entity is. record { entity = entity; is = is; own_is = refl }; back = λ system entity is. record { owner = record { entity = entity; is = is; own_is = refl }; began = refl } }

some_same : (one other : Entity) → Some one ≡ Some other → one ≡ other
some_same one other e = cc e

pub owners_with : (placed : List Placed) (system : ℕ) (entity new : Entity) → entity_at placed system ≡ Some entity → new.own ≡ entity.own → new.restarted ≡ entity.restarted → AreOwners placed (with_entity placed system new)
owners_with placed system entity new is own began = record {
  on = λ other one there_. elim (cases_eq other system) [
    | inl same ↦
        (let one_is : entity ≡ one = some_same entity one (sym is ∙ ap (entity_at placed) (sym same) ∙ there_) in
        record { entity = new; is = ap (entity_at (with_entity placed system new)) same ∙ with_found placed system entity new is; own_is = own ∙ ap (λ (e : Entity). e.own) one_is })
    | inr apart ↦ record { entity = one; is = entity_other placed system other new apart ∙ there_; own_is = refl }
  ];
  back = λ other one there_. elim (cases_eq other system) [
    | inl same ↦
        (let one_is : new ≡ one = some_same new one (sym (with_found placed system entity new is) ∙ ap (entity_at (with_entity placed system new)) (sym same) ∙ there_) in
        record {
          owner = record { entity = entity; is = ap (entity_at placed) same ∙ is; own_is = sym own ∙ ap (λ (e : Entity). e.own) one_is };
          began = ap (λ (e : Entity). e.restarted) (sym one_is) ∙ began;
        })
    | inr apart ↦ record { owner = record { entity = one; is = sym (entity_other placed system other new apart) ∙ there_; own_is = refl }; began = refl }
  ];
}
