-- What lines that are settled and lose nothing come to for two partner ends that were Opened before them (X.214, service primitives; X.224, class 4 state tables).
use Rattle.std.specs.Prelude.{◌⊎◌, ℕ, List, [], ◌++◌}
use Rattle.osi_base.specs.Link.{Link}
use Rattle.script_journal.specs.declared.event.Event.{Event}
use Rattle.tp4_conn.specs.declared.states.InOpened.{InOpened}
use Rattle.tp4_conn.specs.declared.timers.Timers.{Timers}
use Rattle.law_tp4_pair.specs.Pair.{Happening, IsIdle, Leads, Pair}
use Rattle.law_recovery_steps.specs.Going.{AreBothOpened, AreTicked}
use Rattle.law_recovery_run.specs.Service.{HaveGone}
use Rattle.law_recovery_steps.specs.Resting.{AreLater}
use Rattle.tp4_world.specs.World.{World}
use Rattle.law_recovery_run.specs.Following.{IsFollowed}

-- both are Opened, nothing waits, no end is due, and the pair has the two ends, with the units of the journal
pub record AreOpenStill {C : Type 0} (link : C → Link (List ℕ)) (journal : List Event) (last : World C) (x y : ℕ) (p : Pair) : Type 0 where
  pub opened : AreBothOpened p
  pub idle : IsIdle p
  pub later : AreLater p
  pub followed : IsFollowed link journal last [] x y p

-- the lines are steps of the pair, with a tick of each end where it is due; both are Opened still, or one went, as the lines tell, and neither is Opened any more
pub record HaveComeTo {C : Type 0} (link : C → Link (List ℕ)) (t : Timers) (t0 : ℕ) (early late : List Event) (last : World C) (x y : ℕ) (p : Pair) (o q : InOpened) : Type 0 where
  pub happenings : List Happening
  pub next : Pair
  pub leads : Leads p happenings next
  pub ticked : AreTicked p happenings
  pub outcome : AreOpenStill link (early ++ late) last x y next ⊎ HaveGone t t0 early late last x y o q
