-- All that waits is taken up and told (X.213, connectionless-mode network service).
use Rattle.std.specs.Prelude.{◌≡◌, ℕ, List, ◌++◌}
use Rattle.osi_base.specs.declared.unit.Up.{Up}
use Rattle.osi_base.specs.Link.{Link}
use Rattle.osi_base.specs.Calls.{Call}
use Rattle.osi_base.specs.Gathering.{Gathers}
use Rattle.script_journal.specs.declared.event.Event.{Event}
use Rattle.net_world.specs.Told.{told}

-- after these events those of what waited were told, and nothing waits
pub record TakesUpAll {C : Type 0} (link : C → Link (List ℕ)) (steps : C → Call (List ℕ) → C → Type 0) (old : C) (before after : List Event) (new : C) : Type 0 where
  pub ups : List (Up (List ℕ))
  pub gathers : Gathers link steps old ups new
  pub told_is : after ≡ before ++ told ups
