-- How long each frame may still be taken: the timing wheel (X.233, PDU lifetime control).
use Rattle.std.specs.Prelude.{◌≡◌, ℕ, ◌+◌, false, List, [], ◌∷◌, ◌++◌, drop, get_or, Option, Some, slice_get, slice_set}
use Rattle.std.specs.List.{Contains}
use Rattle.lan_step.specs.declared.row.Lan.{Lan}
use Rattle.lan_step.specs.Rows.{bound_on}
use Rattle.lan_step.specs.Frames.{Frame, kept, kept_at, is_live}

-- the places of the frames that may be taken for so many ticks more
abbrev pub list_at : List (List ℕ) → ℕ → List ℕ
list_at wheel ticks = get_or wheel ticks []

-- one place more may be taken for so many ticks
abbrev pub listed : List (List ℕ) → ℕ → ℕ → List (List ℕ)
listed wheel ticks place = slice_set wheel ticks (list_at wheel ticks ++ place ∷ [])

-- one tick later
abbrev pub turned : List (List ℕ) → List (List ℕ)
turned wheel = drop 1 wheel ++ [] ∷ []

-- the place of a frame is listed for the ticks that are left to it
pub record IsDue (clock : ℕ) (lans : List Lan) (wheel : List (List ℕ)) (place : ℕ) (frame : Frame) : Type 0 where
  pub ticks : ℕ
  pub left : clock + ticks ≡ frame.tick + bound_on lans frame.unit.to.lan
  pub listed : Contains (list_at wheel ticks) place

abbrev pub AreDue : ℕ → List Lan → List (Option Frame) → List (List ℕ) → Type 0
AreDue clock lans frames wheel = (place : ℕ) (frame : Frame) → kept (slice_get frames place) ≡ Some frame → IsDue clock lans wheel place frame

-- each frame that is late stands at one of these places
abbrev pub AreLateAmong : ℕ → List Lan → List ℕ → List (Option Frame) → Type 0
AreLateAmong clock lans places frames = (place : ℕ) (frame : Frame) → kept (slice_get frames place) ≡ Some frame → is_live clock lans frame ≡ false → Contains places place

-- the frame at a place is given up where it is late
abbrev pub given_up_at : ℕ → List Lan → List (Option Frame) → ℕ → List (Option Frame)
given_up_at clock lans frames place = slice_set frames place (kept_at clock lans (kept (slice_get frames place)))
