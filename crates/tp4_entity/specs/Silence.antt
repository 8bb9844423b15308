-- The silence of an entity that began again (X.224, frozen references).
use Rattle.std.specs.Prelude.{ℕ, ◌+◌, Bool, false, nat_le, Option, Some, None}
use Rattle.tp4_conn.specs.End.{frozen_for}
use Rattle.tp4_entity.specs.Entity.{Entity}

-- at the latest so many ticks after it began again
abbrev pub is_within : ℕ → ℕ → Option ℕ → Bool
is_within now ticks None = false
is_within now ticks (Some when) = nat_le now (when + ticks)

-- an entity that began again is silent for F ticks
abbrev pub is_silent : ℕ → Entity → Bool
is_silent now e = is_within now (frozen_for e.timers) e.restarted
