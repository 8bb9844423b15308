-- Frames, and which answer an offer and a choice get (IEEE 802.3, MAC frame structure).
use Rattle.std.specs.Prelude.{ℕ, zero, suc, ◌+◌, Bool, true, false, not, ◌&&◌, ◌||◌, ◌==◌, nat_le, nat_eq, is_some, if◌then◌else◌, List, [], ◌∷◌, ◌++◌, Option, Some, None, slice_get, slice_set}
use Rattle.std.specs.Cmp.Lexicographic.{pointwise}
use Rattle.std.specs.List.{list_any}
use Rattle.osi_base.specs.declared.unit.Unit.{Unit as CarriedUnit}
use Rattle.osi_base.specs.declared.unit.Up.{Up}
use Rattle.osi_base.specs.declared.unit.Up.TheVariants.{Unit as Came, Note as Noted}
use Rattle.osi_base.specs.declared.unit.Picked.{Picked}
use Rattle.osi_base.specs.declared.unit.Picked.TheVariants.{Taken as WasPicked, NoSuch, Late, NotThere, NotOurs}
use Rattle.nsap.specs.declared.port.Port.{Port}
use Rattle.lan_frame.specs.Frame.{whole_frame}
use Rattle.lan_step.specs.declared.row.Lan.{Lan}
use Rattle.lan_step.specs.declared.row.PortRow.{PortRow}
use Rattle.lan_step.specs.Rows.{bound_on, same_port, is_on, has_sent}
use Rattle.lan_step.specs.Receivers.{goes_to}

-- a frame: when it was sent, what it carries, and the systems that took it
pub record Frame : Type 0 where
  pub tick : ℕ
  pub unit : CarriedUnit Port
  pub taken : List ℕ

abbrev pub has_taken : Frame → ℕ → Bool
has_taken frame system = list_any (λ taker. taker == system) frame.taken

-- the frame once that system took it
abbrev pub marked : Frame → ℕ → Frame
marked frame system = record frame { taken = if has_taken frame system then frame.taken else frame.taken ++ system ∷ [] }

-- it carries that unit
abbrev pub is_of : CarriedUnit Port → Frame → Bool
is_of unit frame =
    same_port frame.unit.from unit.from && same_port frame.unit.to unit.to && pointwise nat_eq frame.unit.octets unit.octets

-- it may be taken at that tick
abbrev pub is_live : ℕ → List Lan → Frame → Bool
is_live clock lans frame = nat_le clock (frame.tick + bound_on lans frame.unit.to.lan)

abbrev pub kept : Option (Option Frame) → Option Frame
kept None = None
kept (Some frame) = frame

-- the frame of that number, and nothing where there is none or it is late
abbrev pub frame_of : List (Option Frame) → ℕ → Option Frame
frame_of frames zero = None
frame_of frames (suc place) = kept (slice_get frames place)

abbrev pub marked_frame : List (Option Frame) → ℕ → ℕ → Option Frame → List (Option Frame)
marked_frame frames place system None = frames
marked_frame frames place system (Some frame) = slice_set frames place (Some (marked frame system))

-- the frames once that system took the one at that place, or of that number
abbrev pub marked_slot : List (Option Frame) → ℕ → ℕ → List (Option Frame)
marked_slot frames place system = marked_frame frames place system (kept (slice_get frames place))

abbrev pub marked_at : List (Option Frame) → ℕ → ℕ → List (Option Frame)
marked_at frames zero system = frames
marked_at frames (suc place) system = marked_slot frames place system

-- a frame was given that number
abbrev pub is_given : List (Option Frame) → ℕ → Bool
is_given frames zero = false
is_given frames (suc place) = is_some (slice_get frames place)

-- a frame may be taken by a system that has a port there, did not send it, and is one of its destination
abbrev pub picked_of : List PortRow → ℕ → Frame → Picked
picked_of rows system frame =
    if not (is_on rows system frame.unit.to.lan) then NotThere
    else if has_sent rows system frame.unit.from || not (goes_to rows frame.unit.to system) then NotOurs
    else WasPicked

abbrev pub is_taken : Picked → Bool
is_taken WasPicked = true
is_taken NoSuch = false
is_taken Late = false
is_taken NotThere = false
is_taken NotOurs = false

-- the answer to a choice of a frame that was numbered
abbrev pub picked_late : ℕ → List Lan → List PortRow → ℕ → Option Frame → Picked
picked_late clock lans rows system None = Late
picked_late clock lans rows system (Some frame) = if not (is_live clock lans frame) then Late else picked_of rows system frame

-- the answer to a choice: the first that applies
abbrev pub picked : ℕ → List Lan → List PortRow → List (Option Frame) → ℕ → ℕ → Picked
picked clock lans rows frames pick system =
    if not (is_given frames pick) then NoSuch else picked_late clock lans rows system (frame_of frames pick)

-- the frame, and nothing where it is late
abbrev pub kept_at : ℕ → List Lan → Option Frame → Option Frame
kept_at clock lans None = None
kept_at clock lans (Some frame) = if is_live clock lans frame then Some frame else None

-- the frame of that number, where it is live
abbrev pub live_frame : ℕ → List Lan → List (Option Frame) → ℕ → Option Frame
live_frame clock lans frames number = kept_at clock lans (frame_of frames number)

abbrev pub octets_of : Option Frame → Option (List ℕ)
octets_of None = None
octets_of (Some frame) = Some (whole_frame frame.unit.to.snpa frame.unit.from.snpa frame.unit.octets)

-- a live frame that carries that unit
abbrev pub carries_live : ℕ → List Lan → CarriedUnit Port → Option Frame → Bool
carries_live clock lans unit None = false
carries_live clock lans unit (Some frame) = is_live clock lans frame && is_of unit frame

-- how many strays there are in what came by an injection
abbrev pub strays_of : ℕ → List Lan → List (Option Frame) → Up Port → ℕ
strays_of clock lans frames (Noted note) = 0
strays_of clock lans frames (Came arrival) = if list_any (carries_live clock lans arrival.unit) frames then 0 else 1
