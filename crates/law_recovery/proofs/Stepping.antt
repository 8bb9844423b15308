-- What a line comes to, as steps of a pair.
use Rattle.std.specs.Prelude.{◌⊎◌, ℕ, List, ◌++◌}
use Rattle.osi_base.specs.Link.{Link}
use Rattle.script_journal.specs.declared.event.Event.{Event}
use Rattle.law_tp4_pair.specs.Pair.{Happening, Leads, Pair}
use Rattle.tp4_world.specs.World.{World}
use Rattle.law_calm_run.proofs.Hall.{Post}
use Rattle.law_recovery_steps.specs.Going.{AreBothLeft, AreTicked}
use Rattle.law_recovery_run.specs.Following.{IsFollowed}
use Rattle.law_recovery_run.specs.Settling.{IsEnded}
use Rattle.law_recovery.specs.Moving.{AreTold}
use Rattle.law_recovery_run.specs.Over.{HaveLeft}

-- The pair went on, with a tick of each end where it is due: it has the two ends still, and what waits between them, with the units of the journal; or one of them is frozen, and
-- if both had left, the two ends have left in the network
pub record HasMoved {C : Type 0} (link : C → Link (List ℕ)) (early late : List Event) (new : World C) (posts : List Post) (x y : ℕ) (p : Pair) : Type 0 where
  pub happenings : List Happening
  pub next : Pair
  pub leads : Leads p happenings next
  pub ticked : AreTicked p happenings
  pub told : AreTold early late x y p happenings
  pub goes : IsFollowed link (early ++ late) new posts x y next ⊎ (IsEnded next × (AreBothLeft next → HaveLeft new x y))
