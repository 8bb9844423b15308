-- The place of an end: what holds of it between calls, and what a step makes of it.
use Rattle.std.specs.Prelude.{◌≡◌, ◌≤◌, ℕ, ◌+◌, ◌*◌, Bool, true, false, List, [], ◌∷◌, length, Option, Some, None, if◌then◌else◌}
use Rattle.tpdu.specs.declared.tpdu.Format.{Format}
use Rattle.tpdu.specs.declared.tpdu.Format.TheVariants.{Normal, Extended}
use Rattle.tpdu.specs.declared.tpdu.Tpdu.{Tpdu}
use Rattle.tpdu.specs.Values.{TpduAndSum}
use Rattle.tpdu.specs.Writing.{kind_for}
use Rattle.tp4_flow.specs.Told.{Told, Grows}
use Rattle.tp4_flow.specs.declared.step.EndEvent.{EndEvent}
use Rattle.tp4_flow.specs.declared.step.Sent.{Sent}
use Rattle.tp4_flow.specs.declared.step.What.TheVariants.{Unknown}
use Rattle.tp4_conn.specs.declared.call.UserCall.{UserCall}
use Rattle.tp4_conn.specs.declared.timers.Timers.{Timers}
use Rattle.tp4_conn.specs.End.{End, IsTimed, Moved, agreed_format, end_of}
use Rattle.tp4_conn.specs.Matching.{is_match}
use Rattle.tp4_conn.specs.Table.{Called, Ticked, Took, due, stepped}
use Rattle.tp4_entity.specs.Association.{stateless}
use Rattle.tp4_entity.specs.Dues.{AreFrom, AreLater}
use Rattle.tp4_entity.specs.Entity.{Entity, end_at}
use Rattle.tp4_conn.specs.declared.call.CallRefusal.TheVariants.{NoMemory}
use Rattle.tp4_entity.specs.Step.{kept_end}
use Rattle.tp4_entity.specs.declared.refusal.EntityRefusal.{EntityRefusal}
use Rattle.tp4_entity.specs.declared.refusal.EntityRefusal.TheVariants.{Call}

-- the clock of an end that stands there is not ahead
abbrev pub IsBehind : ℕ → Option End → Type 0
IsBehind now None = Unit {0}
IsBehind now (Some end) = end.base.clock ≤ now

abbrev pub AreBehind : ℕ → List (Option End) → Type 0
AreBehind now [] = Unit {0}
AreBehind now (place ∷ places) = IsBehind now place × AreBehind now places

-- an end of this reference, with the entity's timers, and no clock ahead of the entity's
pub record IsOwn (timers : Timers) (clock reference : ℕ) (end : End) : Type 0 where
  pub own : end.base.own ≡ reference
  pub timed : end.base.timers ≡ timers
  pub behind : end.base.clock ≤ clock

abbrev pub IsPlace : Timers → ℕ → ℕ → Option End → Type 0
IsPlace timers clock reference None = Unit {0}
IsPlace timers clock reference (Some end) = IsOwn timers clock reference end

-- the places from that reference on
abbrev pub ArePlaces : Timers → ℕ → ℕ → List (Option End) → Type 0
ArePlaces timers clock reference [] = Unit {0}
ArePlaces timers clock reference (place ∷ places) = IsPlace timers clock reference place × ArePlaces timers clock (reference + 1) places

-- what is true of every entity
pub record IsEntity (e : Entity) : Type 0 where
  pub timers : IsTimed e.timers
  pub least : 1 ≤ length e.ends
  pub most : length e.ends ≤ 64
  pub places : ArePlaces e.timers e.clock 1 e.ends

-- no end is due sooner than now, and where each was due later, each is
abbrev pub Lasts : ℕ → List (Option End) → List (Option End) → Type 0
Lasts now old new = AreFrom now new × (AreLater now old → AreLater now new)

-- the format that the end at a place agreed on
abbrev pub format_of : Option End → Format
format_of None = Normal
format_of (Some end) = agreed_format end.base.agreed

-- what stands at a place after a step, the events and the TPDUs
pub record Placed : Type 0 where
  pub place : Option End
  pub events : List EndEvent
  pub tpdus : List Sent

pub record Places (p : Placed) (place : Option End) (was new : Told) : Type 0 where
  pub place_is : place ≡ p.place
  pub told : Grows was p.events p.tpdus new

abbrev pub stands : Moved → Placed
stands m = record { place = Some (end_of m); events = m.events; tpdus = m.tpdus }

-- nothing happens
abbrev pub quiet : Option End → Placed
quiet place = record { place = place; events = []; tpdus = [] }

-- a TPDU that belongs to no end is told, and maybe answered
abbrev pub unknown : Option End → List ℕ → Tpdu → Placed
unknown place from tpdu = record { place = place; events = record { reference = 0; what = Unknown (kind_for tpdu) } ∷ []; tpdus = stateless from tpdu }

abbrev pub takes_at : (ℕ → ℕ → ℕ) → ℕ → List ℕ → TpduAndSum → Option End → Placed
takes_at wrap now from tpdu None = unknown None from tpdu.0
takes_at wrap now from tpdu (Some end) =
    if is_match end.base end.stage from tpdu.0 then stands (stepped wrap now end (Took tpdu.0 tpdu.1)) else unknown (Some end) from tpdu.0

abbrev pub calls_at : (ℕ → ℕ → ℕ) → ℕ → UserCall → Option End → Placed
calls_at wrap now call None = quiet None
calls_at wrap now call (Some end) = stands (stepped wrap now end (Called call))

abbrev pub kept : Moved → Placed
kept m = record { place = kept_end m (due m.base m.stage); events = m.events; tpdus = m.tpdus }

abbrev pub ticks_at : (ℕ → ℕ → ℕ) → ℕ → Option End → Placed
ticks_at wrap now None = quiet None
ticks_at wrap now (Some end) = kept (stepped wrap now end Ticked)

abbrev pub is_extended : Format → Bool
is_extended Normal = false
is_extended Extended = true

-- where a destination reference stands in a TPDU that has one
abbrev pub destination_in : List ℕ → Option ℕ
destination_in (indicator ∷ code ∷ high ∷ low ∷ rest) = Some (high * 256 + low)
destination_in octets = None

-- memory ran out in a call
abbrev pub is_memory : EntityRefusal → Bool
is_memory (Call NoMemory) = true
is_memory other = false

-- the reference that a TPDU of extended formats would have, where its end agreed on them
abbrev pub extended_front : Entity → Option ℕ → Option ℕ
extended_front e None = None
extended_front e (Some reference) = if is_extended (format_of (end_at e reference)) then Some reference else None
