-- Frames that wait on LANs, in the order in which they were sent (IEEE 802.3, MAC frame structure).
use Rattle.std.specs.Prelude.{◌≡◌, ℕ, true, false, ◌==◌, List, [], ◌++◌, map, Option, Some}
use Rattle.std.specs.List.{AllByRecursion, list_any}
use Rattle.osi_base.specs.declared.unit.Unit.{Unit as CarriedUnit}
use Rattle.nsap.specs.declared.port.Port.{Port}
use Rattle.lan_step.specs.declared.row.Lan.{Lan}
use Rattle.lan_step.specs.declared.row.PortRow.{PortRow}
use Rattle.lan_step.specs.Bag.{Bag}
use Rattle.lan_step.specs.Frames.{Frame, is_taken, picked_of}
use Rattle.lan_bag.specs.steps.Openings.{is_open}

-- a frame that was sent at that tick, and that no system has taken
abbrev pub sent : ℕ → CarriedUnit Port → Frame
sent clock unit = record { tick = clock; unit = unit; taken = [] }

abbrev pub sent_at : ℕ → CarriedUnit Port → Option Frame
sent_at clock unit = Some (sent clock unit)

-- no system can take what stands there, or each that can has taken it
abbrev pub IsSpent : ℕ → List Lan → List PortRow → Option Frame → Type 0
IsSpent clock lans rows slot = is_open clock lans rows slot ≡ false

-- these frames wait, sent at this tick, and all that was sent before them is spent
pub record HasWaiting (bag : Bag) (frames : List (CarriedUnit Port)) : Type 0 where
  pub spent : List (Option Frame)
  pub stands : bag.frames ≡ spent ++ map (sent_at bag.clock) frames
  pub are_spent : AllByRecursion (IsSpent bag.clock bag.lans bag.rows) spent
  pub quiet : bag.waiting ≡ []

-- of the ports of these rows, a frame with that content goes to those of one system alone
pub record GoesOnlyTo (rows : List PortRow) (unit : CarriedUnit Port) (receiver : ℕ) : Type 0 where
  pub picks : (system : ℕ) (frame : Frame) → frame.unit ≡ unit → is_taken (picked_of rows system frame) ≡ (system == receiver)
  pub there : list_any (λ row. row.system == receiver) rows ≡ true

-- it goes to none
abbrev pub GoesNowhere : List PortRow → CarriedUnit Port → Type 0
GoesNowhere rows unit = (system : ℕ) (frame : Frame) → frame.unit ≡ unit → is_taken (picked_of rows system frame) ≡ false

-- the LANs and their ports stay, and the clock is at that tick
pub record IsAt (old : Bag) (clock : ℕ) (new : Bag) : Type 0 where
  pub clock_is : new.clock ≡ clock
  pub lans : new.lans ≡ old.lans
  pub rows : new.rows ≡ old.rows
