-- What waits below is taken up and read.
use Rattle.std.specs.Prelude.{◌≡◌, ℕ, List, ◌++◌}
use Rattle.nsap.specs.declared.port.Port.{Port}
use Rattle.osi_base.specs.declared.unit.Up.{Up}
use Rattle.osi_base.specs.Link.{Link}
use Rattle.osi_base.specs.Calls.{Call}
use Rattle.osi_base.specs.Gathering.{Gathers}
use Rattle.inactive_step.specs.declared.row.InactiveRow.{InactiveRow}
use Rattle.inactive_step.specs.Frames.{read_ups}

-- all that waited below was taken up, and waits here as what it is
pub record ReadsAll {C : Type 0} (link : C → Link Port) (steps : C → Call Port → C → Type 0) (rows : List InactiveRow) (old : C) (before : List (Up (List ℕ))) (new : C) (after : List (Up (List ℕ))) : Type 0 where
  pub ups : List (Up Port)
  pub gathers : Gathers link steps old ups new
  pub added : after ≡ before ++ read_ups rows ups
