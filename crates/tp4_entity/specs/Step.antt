-- The steps of an entity: what its users ask, units that come, and ticks at which an end is due (X.224, class 4 procedures).
use Rattle.std.specs.Prelude.{◌≡◌, ℕ, ◌+◌, Bool, false, nat_lt, nat_le, is_none, if◌then◌else◌, List, [], length, position, replicate, Option, Some, None, option_map}
use Rattle.std.specs.List.{count_by}
use Rattle.tp4_flow.specs.Told.{Told, Grows}
use Rattle.tp4_conn.specs.declared.call.CallRefusal.{CallRefusal}
use Rattle.tp4_conn.specs.declared.call.ConnectCall.{ConnectCall}
use Rattle.tp4_conn.specs.declared.call.ConnectRequest.{ConnectRequest}
use Rattle.tp4_conn.specs.declared.call.UserCall.{UserCall}
use Rattle.tpdu.specs.declared.service.State.{State}
use Rattle.tp4_conn.specs.declared.timers.Timers.{Timers}
use Rattle.tp4_conn.specs.Calls.{call_refusal, state_of}
use Rattle.tp4_conn.specs.End.{End, Moved, end_of}
use Rattle.tp4_conn.specs.Making.{connected}
use Rattle.tp4_conn.specs.Table.{Called, Ticked, due, stepped}
use Rattle.tp4_entity.specs.declared.refusal.ConnectRefusal.{ConnectRefusal}
use Rattle.tp4_entity.specs.declared.refusal.ConnectRefusal.TheVariants as connects
use Rattle.tp4_entity.specs.declared.refusal.EntityRefusal.{EntityRefusal}
use Rattle.tp4_entity.specs.declared.refusal.EntityRefusal.TheVariants as refusals
use Rattle.tp4_entity.specs.Entity.{Entity, Acted, at, end_at, moved, with_end}
use Rattle.tp4_entity.specs.References.{least_free}
use Rattle.tp4_entity.specs.Silence.{is_silent}

-- an entity with so many references, no end and no selector
abbrev pub new_entity : List ℕ → ℕ → Timers → Entity
new_entity own references timers = record { own = own; timers = timers; clock = 0; selectors = []; ends = replicate references None; restarted = None }

-- ---- connect

-- the entity is silent, more than 32 octets, or no reference is free
abbrev pub connect_refusal : ℕ → Entity → List ℕ → Option ConnectRefusal
connect_refusal now e octets =
    if is_silent now e then Some connects.Silent
    else if nat_lt 32 (length octets) then Some connects.TooLong
    else if is_none (least_free now e) then Some connects.RefsSpent
    else None

-- what the new end is made by: a reference, what is asked for, and the timers of the entity
abbrev pub call_of : Entity → ℕ → ConnectRequest → ConnectCall
call_of e reference request = record { own = reference; request = request; rules = e.timers }

abbrev pub connecting : ℕ → Entity → ℕ → ConnectRequest → Acted
connecting now e reference request = moved (at now e) reference (connected now (call_of e reference request))

-- ---- a call on an end

abbrev pub refused_by : Option CallRefusal → Option EntityRefusal
refused_by None = None
refused_by (Some why) = Some (refusals.Call why)

abbrev pub end_refusal : UserCall → Option End → Option EntityRefusal
end_refusal call None = Some refusals.NoSuchEnd
end_refusal call (Some end) = refused_by (call_refusal end.base end.stage call)

-- no end stands at the reference, or the end refuses the call
abbrev pub user_refusal : Entity → ℕ → UserCall → Option EntityRefusal
user_refusal e reference call = end_refusal call (end_at e reference)

abbrev pub calling_end : (ℕ → ℕ → ℕ) → ℕ → Entity → ℕ → UserCall → Option End → Acted
calling_end wrap now e reference call None = record { entity = e; events = []; tpdus = [] }
calling_end wrap now e reference call (Some end) = moved e reference (stepped wrap now end (Called call))

abbrev pub calling : (ℕ → ℕ → ℕ) → ℕ → Entity → ℕ → UserCall → Acted
calling wrap now e reference call = calling_end wrap now (at now e) reference call (end_at e reference)

-- ---- a tick

abbrev pub is_due_by : ℕ → Option ℕ → Bool
is_due_by now None = false
is_due_by now (Some tick) = nat_le tick now

abbrev pub is_due : ℕ → Option End → Bool
is_due now None = false
is_due now (Some end) = is_due_by now (due end.base end.stage)

-- the least reference whose end is due
abbrev pub first_due : ℕ → Entity → Option ℕ
first_due now e = option_map (λ place. place + 1) (position (is_due now) e.ends)

-- how many ends are due
abbrev pub dues : ℕ → Entity → ℕ
dues now e = count_by (is_due now) e.ends

-- an end that is due no more is taken out: it was frozen, and its reference is free
abbrev pub kept_end : Moved → Option ℕ → Option End
kept_end m None = None
kept_end m (Some tick) = Some (end_of m)

abbrev pub ticked_to : Entity → ℕ → Moved → Acted
ticked_to e reference m = record { entity = with_end e reference (kept_end m (due m.base m.stage)); events = m.events; tpdus = m.tpdus }

abbrev pub ticking_end : (ℕ → ℕ → ℕ) → ℕ → Entity → ℕ → Option End → Acted
ticking_end wrap now e reference None = record { entity = e; events = []; tpdus = [] }
ticking_end wrap now e reference (Some end) = ticked_to e reference (stepped wrap now end Ticked)

-- the due end of least reference ticks; where none is due nothing happens
abbrev pub ticking_at : (ℕ → ℕ → ℕ) → ℕ → Entity → Option ℕ → Acted
ticking_at wrap now e None = record { entity = e; events = []; tpdus = [] }
ticking_at wrap now e (Some reference) = ticking_end wrap now e reference (end_at e reference)

abbrev pub ticking : (ℕ → ℕ → ℕ) → ℕ → Entity → Acted
ticking wrap now e = ticking_at wrap now (at now e) (first_due now e)

-- ---- restart

-- it begins again, with its selectors and without its ends
abbrev pub restarted : ℕ → Entity → Entity
restarted now e = record e { clock = now; ends = replicate (length e.ends) None; restarted = Some now }

-- ---- what is told

-- an entity did so
pub record DoesSo (acted : Acted) (entity : Entity) (was new : Told) : Type 0 where
  pub entity_is : entity ≡ acted.entity
  pub told : Grows was acted.events acted.tpdus new

-- the state of the end at a reference
abbrev pub state_at : Entity → ℕ → Option State
state_at e reference = option_map (λ end. state_of end.stage) (end_at e reference)
