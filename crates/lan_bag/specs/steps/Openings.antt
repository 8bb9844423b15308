-- The frames that a system can take and has not: the first of them, and the least system that can take it.
use Rattle.std.specs.Prelude.{◌≡◌, ℕ, ◌+◌, ◌<◌, ◌≤◌, Bool, true, false, not, ◌&&◌, nat_lt, if◌then◌else◌, List, length, Option, Some, None, slice_get}
use Rattle.std.specs.List.{list_any}
use Rattle.lan_step.specs.declared.row.Lan.{Lan}
use Rattle.lan_step.specs.declared.row.PortRow.{PortRow}
use Rattle.lan_step.specs.Rows.{has_sent}
use Rattle.lan_step.specs.Receivers.{is_one_of}
use Rattle.lan_step.specs.Frames.{Frame, has_taken, kept, is_live, picked_of, is_taken}

-- the lesser of two systems, where there are two
abbrev pub lesser_of : Option ℕ → ℕ → ℕ
lesser_of None system = system
lesser_of (Some found) system = if nat_lt found system then found else system

-- the system may take the frame, and has not
abbrev pub is_open_to : ℕ → List Lan → List PortRow → Frame → ℕ → Bool
is_open_to clock lans rows frame system =
    is_live clock lans frame && is_taken (picked_of rows system frame) && not (has_taken frame system)

-- the frame goes to the port of the row, and its system may take it, and has not
abbrev pub is_open_at : ℕ → List Lan → List PortRow → Frame → PortRow → Bool
is_open_at clock lans rows frame row = is_one_of frame.unit.to row && is_open_to clock lans rows frame row.system

-- the system has not taken the frame, and did not send it
abbrev pub is_free_to : List PortRow → Frame → ℕ → Bool
is_free_to rows frame system = not (has_taken frame system) && not (has_sent rows system frame.unit.from)

-- some system may take the frame, and has not
abbrev pub is_open : ℕ → List Lan → List PortRow → Option Frame → Bool
is_open clock lans rows None = false
is_open clock lans rows (Some frame) = list_any (λ row. is_open_to clock lans rows frame row.system) rows

-- no frame before that place can be taken by a system that has not taken it
abbrev pub IsClosedTo : ℕ → List Lan → List PortRow → List (Option Frame) → ℕ → Type 0
IsClosedTo clock lans rows frames place =
    (k : ℕ) → k < place → is_open clock lans rows (kept (slice_get frames k)) ≡ false

-- the first frame that a system can take and has not taken is at that place, or there is none
pub record IsFirstOpen (clock : ℕ) (lans : List Lan) (rows : List PortRow) (frames : List (Option Frame)) (place : ℕ) : Type 0 where
  pub within : place ≤ length frames
  pub before : IsClosedTo clock lans rows frames place
  pub here : place < length frames → is_open clock lans rows (kept (slice_get frames place)) ≡ true

-- the least of the systems that can take a frame and have not, and none exactly where there is none
abbrev pub IsLeastOpen : ℕ → List Lan → List PortRow → Frame → Option ℕ → Type 0
IsLeastOpen clock lans rows frame None = (system : ℕ) → is_open_to clock lans rows frame system ≡ false
IsLeastOpen clock lans rows frame (Some least) =
    (is_open_to clock lans rows frame least ≡ true)
    × ((system : ℕ) → is_open_to clock lans rows frame system ≡ true → least ≤ system)

-- the same of what stands at a place
abbrev pub IsLeastAt : ℕ → List Lan → List PortRow → Option Frame → Option ℕ → Type 0
IsLeastAt clock lans rows None least = least ≡ None
IsLeastAt clock lans rows (Some frame) least = IsLeastOpen clock lans rows frame least

-- the number of what stands at a place, and the least system that can take it and has not; none exactly where there is none
abbrev pub IsPairAt : ℕ → List Lan → List PortRow → ℕ → Option Frame → Option (ℕ × ℕ) → Type 0
IsPairAt clock lans rows place slot None = IsLeastAt clock lans rows slot None
IsPairAt clock lans rows place slot (Some pair) = (pair.0 ≡ place + 1) × IsLeastAt clock lans rows slot (Some pair.1)

-- the first frame that a system can take and has not taken is at that place, and the pair is its own
pub record IsFreshAt (clock : ℕ) (lans : List Lan) (rows : List PortRow) (frames : List (Option Frame)) (place : ℕ) (next : Option (ℕ × ℕ)) : Type 0 where
  pub first : IsFirstOpen clock lans rows frames place
  pub pair : IsPairAt clock lans rows place (kept (slice_get frames place)) next
