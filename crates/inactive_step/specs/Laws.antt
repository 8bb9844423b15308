-- The promise of the inactive subset: over any carrier of frames that keeps the link contract, the network keeps it for units.
use Rattle.std.specs.Prelude.{◌≡◌, ℕ, List, [], Some}
use Rattle.nsap.specs.declared.port.Port.{Port}
use Rattle.osi_base.specs.declared.unit.Unit.{Unit as CarriedUnit}
use Rattle.osi_base.specs.declared.unit.Up.TheVariants.{Unit as Came}
use Rattle.osi_base.specs.Link.{Link}
use Rattle.osi_base.specs.Calls.{Call, Keeps}
use Rattle.inactive_step.specs.declared.row.InactiveRow.{InactiveRow}
use Rattle.inactive_step.specs.declared.row.Way.{Way}
use Rattle.inactive_step.specs.Frames.{frame_on, read_up}
use Rattle.inactive_step.specs.Way.{way_from}
use Rattle.inactive_step.specs.Network.{Inactive, inactive_link, new_inactive}
use Rattle.inactive_step.specs.Rows.{AreAllApart, AreServed}
use Rattle.inactive_step.specs.Sound.{IsSound}
use Rattle.inactive_step.specs.Step.{InactiveStep}

-- each step of the network keeps the link contract
abbrev pub CarriesOn : {C : Type 0} → (C → Link Port) → (C → Call Port → C → Type 0) → Type 0
CarriesOn {C} link steps = (old : Inactive C) (call : Call (List ℕ)) (new : Inactive C)
    → InactiveStep link steps old call new → Keeps (inactive_link link old) call (inactive_link link new)

abbrev pub StaysSound : {C : Type 0} → (C → Link Port) → (C → Call Port → C → Type 0) → Type 0
StaysSound {C} link steps = (old : Inactive C) (call : Call (List ℕ)) (new : Inactive C)
    → IsSound link old → InactiveStep link steps old call new → IsSound link new

-- a carrier in which nothing floats or waits, at tick 0, and end systems that it serves
abbrev pub BeginsSoundly : {C : Type 0} → (C → Link Port) → Type 0
BeginsSoundly {C} link = (first : C) (rows : List InactiveRow)
    → (link first).clock ≡ 0 → (link first).floating ≡ [] → (link first).waiting ≡ [] → AreServed (link first) rows → IsSound link (new_inactive first rows)

-- a unit that has a way is read from its frame, with its source and its destination
abbrev pub ComesBack : Type 0
ComesBack = (rows : List InactiveRow) (unit : CarriedUnit (List ℕ)) (way : Way) (system : ℕ)
    → AreAllApart rows → way_from rows unit.from unit.to ≡ Some way
    → read_up rows (Came (record { system = system; unit = frame_on way unit.octets })) ≡ Came (record { system = system; unit = unit })
