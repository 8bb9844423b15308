-- The index of the frames: from the first injection on, each stands in it by a sum over what it carries and by its place.
use Rattle.std.specs.Prelude.{◌≡◌, ℕ, ◌<◌, ◌+◌, ◌*◌, ◌%◌, Bool, true, false, List, [], ◌∷◌, Option, Some, None, slice_get}
use Rattle.std.specs.BTreeSet.{BTreeSet, IsUnchanged, Updates}
use Rattle.std.specs.Ordering.{nat_cmp}
use Rattle.osi_base.specs.declared.unit.Unit.{Unit as CarriedUnit}
use Rattle.nsap.specs.declared.port.Port.{Port}
use Rattle.lan_step.specs.declared.row.Lan.{Lan}
use Rattle.lan_step.specs.Frames.{Frame, kept, carries_live}

-- a sum with the octets behind what was added up
abbrev pub sum_from : ℕ → List ℕ → ℕ
sum_from sum [] = sum
sum_from sum (octet ∷ octets) = sum_from ((sum * 31 % 4294967296 + octet) % 4294967296) octets

abbrev pub key_of : CarriedUnit Port → ℕ
key_of unit = sum_from (sum_from (sum_from 0 unit.from.snpa) unit.to.snpa) unit.octets

-- the key before the place
abbrev pub code_of : ℕ → ℕ → ℕ
code_of key place = key * 4294967296 + place

-- each frame has its code among those
pub record AreIndexed (has : ℕ → Bool) (frames : List (Option Frame)) : Type 0 where
  pub at : (place : ℕ) (frame : Frame) → kept (slice_get frames place) ≡ Some frame → has (code_of (key_of frame.unit) place) ≡ true

-- each frame before a place has
pub record AreIndexedTo (has : ℕ → Bool) (end : ℕ) (frames : List (Option Frame)) : Type 0 where
  pub at : (place : ℕ) (frame : Frame) → place < end → kept (slice_get frames place) ≡ Some frame → has (code_of (key_of frame.unit) place) ≡ true

-- the frame at a place, where one stands there, joins the index, and nothing else changes
abbrev pub Joins : Option Frame → ℕ → BTreeSet ℕ → BTreeSet ℕ → Type 0
Joins None place old new = IsUnchanged old new
Joins (Some frame) place old new = Updates nat_cmp old new (code_of (key_of frame.unit) place) true

-- it does where the index is wanted; else nothing changes
abbrev pub JoinsWhere : Bool → Option Frame → ℕ → BTreeSet ℕ → BTreeSet ℕ → Type 0
JoinsWhere true frame place old new = Joins frame place old new
JoinsWhere false frame place old new = IsUnchanged old new

-- the frame of that code is live and carries this unit
abbrev pub carries_at : ℕ → List Lan → CarriedUnit Port → List (Option Frame) → ℕ → Bool
carries_at clock lans unit frames code = carries_live clock lans unit (kept (slice_get frames (code % 4294967296)))
