-- A run that recovers, at the settle from which on nothing is lost: what led to it, and two partners that are Opened there (X.213, queue model of the network connectionless-mode service;
-- X.214, queue model of the transport service).
use Rattle.std.specs.Prelude.{ℕ, List, []}
use Rattle.std.specs.List.{AllByRecursion}
use Rattle.osi_base.specs.Calls.{Call}
use Rattle.osi_base.specs.Link.{Link}
use Rattle.script_journal.specs.Lawful.{shown, submitted}
use Rattle.script_journal.specs.declared.event.Event.{Event}
use Rattle.tp4_conn.specs.End.{End, IsTimed}
use Rattle.tp4_conn.specs.declared.timers.Timers.{Timers}
use Rattle.law_tp4_pair.specs.Pair.{Pair}
use Rattle.tp4_world.specs.First.{IsFirst}
use Rattle.tp4_world.specs.Run.{Starts}
use Rattle.tp4_world.specs.World.{World}
use Rattle.tp4_world.specs.declared.place.Placed.{Placed}
use Rattle.law_tp4_lawful.specs.First.{AreDistinct, IsUntouched}
use Rattle.law_calm_run.specs.Run.{HaveEntities}

-- ---- the run

-- A network of systems with these titles and timers, each of which has an entity, to which nothing happened before it started so
pub record HasStarted {C : Type 0} (link : C → Link (List ℕ)) (steps : C → Call (List ℕ) → C → Type 0) (titles : List (List ℕ)) (timers : Timers) (begun : List Event) (first : World C) : Type 0 where
  pub made : C
  pub placed : List Placed
  pub timed : IsTimed timers
  pub distinct : AreDistinct titles
  pub have : HaveEntities titles placed
  pub is_first : IsFirst timers.life titles (link made) placed
  pub untouched : AllByRecursion (IsUntouched timers) placed
  pub starts : Starts link steps made placed begun first

-- ---- two partners

-- two ends with the units of the journal, where nothing waits between them
abbrev pub pair_at : ℕ → List Event → ℕ → ℕ → End → End → Pair
pair_at clock journal x y calling called = record {
  clock = clock;
  calling = calling;
  called = called;
  forth = [];
  back = [];
  calling_gave = submitted x journal;
  called_gave = submitted y journal;
  calling_showed = shown x journal;
  called_showed = shown y journal;
  calling_told = [];
  called_told = [];
}
