-- The ends of a system, as a value (X.224, class 4: association of TPDUs with connections).
use Rattle.std.specs.Prelude.{ℕ, ◌==◌, ◌-◌, if◌then◌else◌, List, Option, Some, None, slice_get, slice_set}
use Rattle.tp4_flow.specs.declared.step.EndEvent.{EndEvent}
use Rattle.tp4_flow.specs.declared.step.Sent.{Sent}
use Rattle.tp4_conn.specs.End.{End, Moved, end_of}
use Rattle.tp4_conn.specs.declared.timers.Timers.{Timers}

pub record Entity : Type 0 where
  -- the address of its transport users, whose selector is 01
  pub own : List ℕ
  pub timers : Timers
  -- the tick of the latest call that was not refused
  pub clock : ℕ
  -- the transport selectors at which connections are taken
  pub selectors : List (List ℕ)
  -- the end of the reference n stands at place n - 1
  pub ends : List (Option End)
  -- the tick at which it last began again without its ends, if it did
  pub restarted : Option ℕ

-- what came of a step: the entity after it, the events and the TPDUs, each in order
pub record Acted : Type 0 where
  pub entity : Entity
  pub events : List EndEvent
  pub tpdus : List Sent

abbrev pub there : Option (Option End) → Option End
there None = None
there (Some end) = end

-- the end that stands at a reference
abbrev pub end_at : Entity → ℕ → Option End
end_at e reference = if reference == 0 then None else there (slice_get e.ends (reference - 1))

abbrev pub with_end : Entity → ℕ → Option End → Entity
with_end e reference end = record e { ends = slice_set e.ends (reference - 1) end }

-- an end did what its row says
abbrev pub moved : Entity → ℕ → Moved → Acted
moved e reference m = record { entity = with_end e reference (Some (end_of m)); events = m.events; tpdus = m.tpdus }

-- it is now this tick
abbrev pub at : ℕ → Entity → Entity
at now e = record e { clock = now }
