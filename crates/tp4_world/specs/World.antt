-- The transport entities of a network, and the ends that were made so far, as a value (X.214, model of the transport service).
use Rattle.std.specs.Prelude.{ℕ, ◌+◌, ◌-◌, ◌==◌, Bool, ◌&&◌, if◌then◌else◌, List, [], ◌∷◌, slice_get, Option, None, option_map, find}
use Rattle.tp4_entity.specs.Entity.{Entity}
use Rattle.tp4_world.specs.declared.place.EndAt.{EndAt}
use Rattle.tp4_world.specs.declared.place.Placed.{Placed}

pub record World (C : Type 0) : Type 0 where
  -- the carrier of units between the systems
  pub carrier : C
  -- in the order in which the systems were declared
  pub entities : List Placed
  -- the end of the number n, from 1, stands at place n - 1
  pub ends : List EndAt

abbrev pub is_of : ℕ → Placed → Bool
is_of system one = one.system == system

-- the entity of a system, where it has one
abbrev pub entity_at : List Placed → ℕ → Option Entity
entity_at placed system = option_map (λ one. one.entity) (find (is_of system) placed)

-- the entity of a system becomes another
abbrev pub with_entity : List Placed → ℕ → Entity → List Placed
with_entity [] system entity = []
with_entity (one ∷ others) system entity =
    if is_of system one then record one { entity = entity } ∷ others else one ∷ with_entity others system entity

-- where the end of a number was made
abbrev pub end_numbered : List EndAt → ℕ → Option EndAt
end_numbered ends number = if number == 0 then None else slice_get ends (number - 1)

abbrev pub is_at : ℕ → ℕ → EndAt → Bool
is_at system reference end = end.system == system && end.reference == reference

-- the number of the latest end made at a reference of a system, from the next number on
abbrev pub latest_from : ℕ → ℕ → List EndAt → ℕ → ℕ → ℕ
latest_from next found [] system reference = found
latest_from next found (end ∷ ends) system reference =
    latest_from (next + 1) (if is_at system reference end then next else found) ends system reference

-- the number of the latest end made there, and 0 where none was
abbrev pub latest : List EndAt → ℕ → ℕ → ℕ
latest ends system reference = latest_from 1 0 ends system reference
