-- Which references are free (X.224, frozen references).
use Rattle.std.specs.Prelude.{ℕ, ◌+◌, ◌==◌, Bool, true, false, not, ◌&&◌, nat_lt, nat_le, length, position, Option, Some, None, option_map}
use Rattle.tp4_conn.specs.declared.states.StateData.{StateData}
use Rattle.tp4_conn.specs.declared.states.StateData.TheVariants.{Frozen}
use Rattle.tp4_conn.specs.End.{End, frozen_for}
use Rattle.tp4_entity.specs.Entity.{Entity, end_at}
use Rattle.tp4_entity.specs.Silence.{is_silent}

-- the end was frozen more than so many ticks ago
abbrev pub was_frozen : ℕ → ℕ → StateData → Bool
was_frozen now ticks (Frozen when) = nat_lt (when + ticks) now
was_frozen now ticks other = false

-- no end stands there, or one that entered Frozen more than F ticks ago
abbrev pub is_free_place : ℕ → Option End → Bool
is_free_place now None = true
is_free_place now (Some end) = was_frozen now (frozen_for end.base.timers) end.stage

-- a reference of the entity that is free: none is while it is silent
abbrev pub is_free : ℕ → Entity → ℕ → Bool
is_free now e reference = not (is_silent now e) && (not (reference == 0) && (nat_le reference (length e.ends) && is_free_place now (end_at e reference)))

-- the least free reference
abbrev pub least_free : ℕ → Entity → Option ℕ
least_free now e = option_map (λ place. place + 1) (position (is_free_place now) e.ends)
