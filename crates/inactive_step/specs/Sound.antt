-- What holds of the network between two calls: each frame on its way is that of a unit that was taken (X.233, Inactive Network Layer
-- Protocol subset).
use Rattle.std.specs.Prelude.{◌≡◌, ℕ, ◌+◌, ◌≤◌, true, List, [], Some}
use Rattle.std.specs.List.{Contains, AllByRecursion}
use Rattle.nsap.specs.declared.port.Port.{Port}
use Rattle.osi_base.specs.declared.unit.Unit.{Unit as CarriedUnit}
use Rattle.osi_base.specs.Link.{Link}
use Rattle.inactive_step.specs.declared.row.InactiveRow.{InactiveRow}
use Rattle.inactive_step.specs.declared.row.Way.{Way}
use Rattle.inactive_step.specs.Frames.{frame_on}
use Rattle.inactive_step.specs.Way.{way_from}
use Rattle.inactive_step.specs.Network.{Inactive}
use Rattle.inactive_step.specs.Rows.{AreServed}

-- the frame is that of a unit that was taken at that tick
pub record IsFrameOf (rows : List InactiveRow) (floating : List (ℕ × CarriedUnit (List ℕ))) (tick : ℕ) (frame : CarriedUnit Port) : Type 0 where
  pub unit : CarriedUnit (List ℕ)
  pub taken : Contains floating (tick, unit)
  pub way : Way
  pub way_is : way_from rows unit.from unit.to ≡ Some way
  pub frame_is : frame ≡ frame_on way unit.octets

-- each frame that may still be taken is such
abbrev pub AreTraced : {C : Type 0} → (C → Link Port) → Inactive C → Type 0
AreTraced link net = (entry : ℕ × CarriedUnit Port) → Contains (link net.link).floating entry → (link net.link).clock ≤ entry.0 + (link net.link).bound entry.1.to
    → IsFrameOf net.rows net.floating entry.0 entry.1

pub record IsSound {C : Type 0} (link : C → Link Port) (net : Inactive C) : Type 0 where
  pub quiet : (link net.link).waiting ≡ []
  pub served : AreServed (link net.link) net.rows
  pub past : AllByRecursion (λ entry. entry.0 ≤ (link net.link).clock) net.floating
  pub none : (link net.link).honest ≡ true → net.strays ≡ 0
  -- as long as nothing was injected
  pub traced : (link net.link).honest ≡ true → AreTraced link net
