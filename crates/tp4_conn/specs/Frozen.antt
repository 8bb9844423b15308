-- Frozen: the end is over, and its reference is kept from use for F ticks (X.224, frozen references).
use Rattle.std.specs.Prelude.{ℕ, ◌+◌, nat_lt, Option, Some, None, if◌then◌else◌}
use Rattle.tp4_conn.specs.declared.end_record.EndRecord.{EndRecord}
use Rattle.tp4_conn.specs.declared.states.StateData.TheVariants.{Frozen}
use Rattle.tp4_conn.specs.End.{Moved, stays, frozen_for}

abbrev pub frozen_tick : EndRecord → ℕ → Moved
frozen_tick b when = stays b (Frozen when)

-- a tick of more than F ticks after it began leaves it without a due tick
abbrev pub frozen_due : EndRecord → ℕ → Option ℕ
frozen_due b when = if nat_lt (when + frozen_for b.timers) b.clock then None else Some (when + frozen_for b.timers + 1)
