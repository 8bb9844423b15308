-- Which connect requests wait for their answer (X.214, service primitives; X.224, class 4: connection establishment).
use Rattle.std.specs.Prelude.{◌≡◌, ℕ, Some}
use Rattle.tp4_conn.specs.End.{End}
use Rattle.tp4_conn.specs.declared.states.InCrWait.{InCrWait}
use Rattle.tp4_conn.specs.declared.states.StateData.TheVariants.{CrWait}
use Rattle.tp4_world.specs.World.{World}
use Rattle.law_calm_run.specs.Service.{end_at_number}

-- the end of that number stands, and no answer to its request came yet
pub record IsUnanswered {C : Type 0} (world : World C) (number : ℕ) : Type 0 where
  pub end : End
  pub stands : end_at_number world number ≡ Some end
  pub request : InCrWait
  pub waits : end.stage ≡ CrWait request
