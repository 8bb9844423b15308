-- What an entity is asked is the same of its ends as they stand on the wire: which references are free, which end is due, what is refused.
use Rattle.std.proofs.Common.{◌≡◌, ℕ, zero, suc, Bool, true, false, not, ◌&&◌, ◌||◌, ◌==◌, nat_lt, nat_le, cond, List, [], ◌∷◌, length, map, option_map, Option, Some, None, refl, sym, ap, ◌∙◌, if◌then◌else◌, replicate}
use Rattle.std.specs.Prelude.{is_none}
use Rattle.std.specs.List.{find}
use Rattle.tp4_conn.specs.declared.end_record.EndRecord.{EndRecord}
use Rattle.tp4_conn.specs.declared.call.UserCall.{UserCall}
use Rattle.tp4_conn.specs.declared.states.StateData.{StateData}
use Rattle.tp4_conn.specs.declared.states.StateData.TheVariants.{CrWait}
use Rattle.tp4_conn.specs.Calls.{call_refusal}
use Rattle.tp4_conn.specs.End.{End}
use Rattle.tp4_conn.specs.Wire.{stage_on_wire}
use Rattle.tp4_entity.specs.declared.refusal.ConnectRefusal.TheVariants as connects
use Rattle.tp4_entity.specs.Entity.{Entity, end_at}
use Rattle.tp4_entity.specs.References.{is_free, is_free_place}
use Rattle.tp4_entity.specs.Silence.{is_silent}
use Rattle.tp4_entity.specs.Step.{connect_refusal, end_refusal, refused_by, user_refusal, restarted}
use Rattle.tp4_entity.specs.Unit.{extended_of}
use Rattle.tp4_entity.specs.Wire.{entity_on_wire}
use Rattle.tp4_entity.proofs.Wires.{end_on, free_on, listed_on, map_length as length_on, on}
pub use Rattle.tp4_entity.proofs.Wires.{first_due_on, least_on}
use Rattle.tp4_world.proofs.Places.{some_same}
use Rattle.tp4_world.specs.Wire.{placed_on_wire}
use Rattle.tp4_world.specs.Ended.{has_ended}
use Rattle.tp4_world.specs.World.{entity_at, is_of, latest, with_entity}
use Rattle.tp4_world.specs.declared.place.EndAt.{EndAt}
use Rattle.tp4_world.specs.declared.place.Placed.{Placed}

refusal_on : (b : EndRecord) (stage : StateData) (call : UserCall) → call_refusal b (stage_on_wire stage) call ≡ call_refusal b stage call
refusal_on b (CrWait w) call = refl
refusal_on b stage call = refl

-- ---- an entity

pub formats_on : (e : Entity) → extended_of (entity_on_wire e) ≡ extended_of e
formats_on e = listed_on 1 e.ends

pub connect_refusal_on : (now : ℕ) (e : Entity) (octets : List ℕ) → connect_refusal now (entity_on_wire e) octets ≡ connect_refusal now e octets
connect_refusal_on now e octets =
    ap (λ (found : Option ℕ). if is_silent now e then Some connects.Silent else if nat_lt 32 (length octets) then Some connects.TooLong else if is_none found then Some connects.RefsSpent else None)
    (least_on now e)

end_refusal_on : (call : UserCall) (place : Option End) → end_refusal call (on place) ≡ end_refusal call place
end_refusal_on call None = refl
end_refusal_on call (Some end) = ap refused_by (refusal_on end.base end.stage call)

pub user_refusal_on : (e : Entity) (reference : ℕ) (call : UserCall) → user_refusal (entity_on_wire e) reference call ≡ user_refusal e reference call
user_refusal_on e reference call = ap (end_refusal call) (end_on e reference) ∙ end_refusal_on call (end_at e reference)

is_free_on : (now : ℕ) (e : Entity) (reference : ℕ) → is_free now (entity_on_wire e) reference ≡ is_free now e reference
is_free_on now e reference =
    let free : is_free_place now (end_at (entity_on_wire e) reference) ≡ is_free_place now (end_at e reference) =
    ap (is_free_place now) (end_on e reference) ∙ free_on now (end_at e reference) in
    λ i. not (is_silent now e) && (not (reference == 0) && (nat_le reference (length_on e.ends i) && free i))

none_same : (place : Option End) → is_none (on place) ≡ is_none place
none_same None = refl
none_same (Some end) = refl

stands_on : (e : Entity) (reference : ℕ) → is_none (end_at (entity_on_wire e) reference) ≡ is_none (end_at e reference)
stands_on e reference = ap is_none (end_on e reference) ∙ none_same (end_at e reference)

pub ended_on : (now : ℕ) (ends : List EndAt) (number : ℕ) (end : EndAt) (e : Entity) → has_ended now ends number end (entity_on_wire e) ≡ has_ended now ends number end e
ended_on now ends number end e =
    λ i. not (latest ends end.system end.reference == number) || (stands_on e end.reference i || is_free_on now e end.reference i)

nothing_on : (count : ℕ) → map on (replicate count None) ≡ replicate count None
nothing_on zero = refl
nothing_on (suc count) = ap (λ (places : List (Option End)). None ∷ places) (nothing_on count)

-- an entity that begins again has no numbers
pub restarted_on : (now : ℕ) (e : Entity) → restarted now (entity_on_wire e) ≡ entity_on_wire (restarted now e)
restarted_on now e =
    ap (λ (places : List (Option End)). record e { clock = now; ends = places; restarted = Some now })
    (ap (λ n. replicate n None) (length_on e.ends) ∙ sym (nothing_on (length e.ends)))

-- ---- the entities of a network

pub found_on : (placed : List Placed) (system : ℕ) → entity_at (map placed_on_wire placed) system ≡ option_map entity_on_wire (entity_at placed system)
found_on [] system = refl
found_on (one ∷ placed) system = by_first (is_of system one) (found_on placed system)
  where
    by_first : (here : Bool) → entity_at (map placed_on_wire placed) system ≡ option_map entity_on_wire (entity_at placed system)
        → option_map (λ (x : Placed). x.entity) (cond here (Some (placed_on_wire one)) (find (is_of system) (map placed_on_wire placed)))
        ≡ option_map entity_on_wire (option_map (λ (x : Placed). x.entity) (cond here (Some one) (find (is_of system) placed)))
    by_first true rest = refl
    by_first false rest = rest

pub with_on : (placed : List Placed) (system : ℕ) (entity : Entity) → with_entity (map placed_on_wire placed) system (entity_on_wire entity) ≡ map placed_on_wire (with_entity placed system entity)
with_on [] system entity = refl
with_on (one ∷ placed) system entity = by_first (is_of system one) (with_on placed system entity)
  where
    by_first : (here : Bool) → with_entity (map placed_on_wire placed) system (entity_on_wire entity) ≡ map placed_on_wire (with_entity placed system entity)
        → (if here then placed_on_wire (record one { entity = entity }) ∷ map placed_on_wire placed else placed_on_wire one ∷ with_entity (map placed_on_wire placed) system (entity_on_wire entity))
        ≡ map placed_on_wire (if here then record one { entity = entity } ∷ placed else one ∷ with_entity placed system entity)
    by_first true rest = refl
    by_first false rest = ap (λ (others : List Placed). placed_on_wire one ∷ others) rest

-- the entity with whole numbers that has the wire numbers of one that stands there
pub record Upper (placed : List Placed) (system : ℕ) (lower : Entity) : Type 0 where
  pub entity : Entity
  pub there : entity_at placed system ≡ Some entity
  pub is : lower ≡ entity_on_wire entity

pub upper : (placed : List Placed) (system : ℕ) (lower : Entity) → entity_at (map placed_on_wire placed) system ≡ Some lower → Upper placed system lower
upper placed system lower is = by_place (entity_at placed system) refl (sym (found_on placed system) ∙ is)
  where
    by_place : (found : Option Entity) → entity_at placed system ≡ found → option_map entity_on_wire found ≡ Some lower → Upper placed system lower
    by_place None there same = absurd cc
    by_place (Some entity) there same = record { entity = entity; there = there; is = sym (some_same (entity_on_wire entity) lower same) }

pub lower_there : (placed : List Placed) (system : ℕ) (entity : Entity) → entity_at placed system ≡ Some entity → entity_at (map placed_on_wire placed) system ≡ Some (entity_on_wire entity)
lower_there placed system entity there = found_on placed system ∙ ap (option_map entity_on_wire) there
