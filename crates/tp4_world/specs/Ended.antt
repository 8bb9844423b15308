-- When an end is over: its reference has been free since it was made (X.224, frozen references).
use Rattle.std.specs.Prelude.{ℕ, ◌==◌, Bool, ◌||◌, not, List, is_none}
use Rattle.tp4_entity.specs.Entity.{Entity, end_at}
use Rattle.tp4_entity.specs.References.{is_free}
use Rattle.tp4_world.specs.World.{latest}
use Rattle.tp4_world.specs.declared.place.EndAt.{EndAt}

-- an end whose reference has been free since it was made, or whose system began again since: a later end has the reference, none stands there, or
-- it is free now
abbrev pub has_ended : ℕ → List EndAt → ℕ → EndAt → Entity → Bool
has_ended now ends number end entity =
    not (latest ends end.system end.reference == number) || (is_none (end_at entity end.reference) || is_free now entity end.reference)
