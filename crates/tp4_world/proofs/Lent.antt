-- The entity of a system is lent: what holds of all entities, with what is left in its place.
use Rattle.std.proofs.Common.{◌≡◌, ℕ, zero, suc, ◌≤◌, List, [], ◌∷◌, Option, Some, None, MutBor, length, slice_get, slice_index_or, slice_set, refl, sym, ◌∙◌, ap, subst}
use Rattle.std.specs.Prelude.{unwrap_or}
use Rattle.std.specs.List.{IsItemAtMut, position}
use Rattle.std.proofs.lemmas.List.{set-get_or}
use Rattle.std.proofs.lemmas.Option.{get_or_from_slice_get, slice_get_read}
use Rattle.tp4_entity.specs.Entity.{Entity}
use Rattle.tp4_world.proofs.Places.{first_within, some_same}
use Rattle.tp4_world.specs.World.{is_of}
use Rattle.tp4_world.specs.declared.place.Placed.{Placed}
use Rattle.tp4_world.specs.steps.Lending.{Finds, spot}
use Rattle.tp4_world.specs.steps.Parts.{AreBehind, ChangesAt}

pub spot_is : (placed : List Placed) (system place : ℕ) → position (is_of system) placed ≡ Some place → place ≡ spot system placed
spot_is placed system place found = sym (ap (λ (o : Option ℕ). unwrap_or o 0) found)

pub read_at : (placed : List Placed) (system place : ℕ) (one : Placed) → position (is_of system) placed ≡ Some place → one ≡ slice_index_or placed place one → slice_get placed place ≡ Some one
read_at placed system place one found is = slice_get_read placed (length placed) place one refl (first_within (is_of system) placed place found) is

pub lent : (placed : List Placed) (system place : ℕ) (one : Option (MutBor Placed)) → position (is_of system) placed ≡ Some place → IsItemAtMut placed place one → Finds placed system one
lent placed system place None found item = absurd (let some = item.2 (first_within (is_of system) placed place found) in cc)
lent placed system place (Some one) found item =
    let is = spot_is placed system place found in record {
      place = found ∙ ap (λ (n : ℕ). Some n) is;
      there = subst (λ (n : ℕ). slice_get placed n ≡ Some one.now) is (read_at placed system place one.now found item.1);
    }

pub changes : {placed changed : List Placed} {place : ℕ} {one : Placed} (after : Entity) (Does : Entity → Entity → Type 0) → slice_get placed place ≡ Some one
    → changed ≡ slice_set placed place (record one { entity = after }) → Does one.entity after → ChangesAt place placed changed Does
changes {placed} {changed} {place} {one} after Does at is does = record { one = one; after = after; at = at; does = does; becomes = is }

-- it is left as it was
pub unchanged : (placed : List Placed) (place : ℕ) (one : Placed) (after : Entity) → slice_get placed place ≡ Some one → after ≡ one.entity → slice_set placed place (record one { entity = after }) ≡ placed
unchanged placed place one after at same =
    ap (λ (e : Entity). slice_set placed place (record one { entity = e })) same ∙ ap (slice_set placed place) (sym (get_or_from_slice_get placed place one one at)) ∙ set-get_or placed place one

-- whose address that is
pub owned : (placed : List Placed) (place : ℕ) (one : Placed) (own : List ℕ) → slice_get placed place ≡ Some one → own ≡ one.entity.own → (other : Placed) → slice_get placed place ≡ Some other → own ≡ other.entity.own
owned placed place one own at is other there = is ∙ ap (λ (p : Placed). p.entity.own) (some_same one other (sym at ∙ there))

pub behind_there : (now : ℕ) (placed : List Placed) (place : ℕ) (one : Placed) → AreBehind now placed → slice_get placed place ≡ Some one → one.entity.clock ≤ now
behind_there now [] place one all at = absurd cc
behind_there now (x ∷ placed) zero one all at = subst (λ (p : Placed). p.entity.clock ≤ now) (some_same x one at) all.0
behind_there now (x ∷ placed) (suc place) one all at = behind_there now placed place one all.1 at

behind_set : (now : ℕ) (placed : List Placed) (place : ℕ) (new : Placed) → AreBehind now placed → new.entity.clock ≤ now → AreBehind now (slice_set placed place new)
behind_set now [] place new all low = all
behind_set now (x ∷ placed) zero new all low = (low, all.1)
behind_set now (x ∷ placed) (suc place) new all low = (all.0, behind_set now placed place new all.1 low)

pub behind_left : (now : ℕ) (placed changed : List Placed) (place : ℕ) (new : Placed) → changed ≡ slice_set placed place new → AreBehind now placed → new.entity.clock ≤ now → AreBehind now changed
behind_left now placed changed place new is all low = subst (λ (ps : List Placed). AreBehind now ps) (sym is) (behind_set now placed place new all low)
