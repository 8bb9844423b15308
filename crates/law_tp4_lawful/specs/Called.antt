-- What the users of a network see after any calls, over any carrier of units (X.214, model of the transport service).
use Rattle.std.specs.Prelude.{◌≡◌, ℕ, true, List, ◌++◌}
use Rattle.std.specs.List.{AllByRecursion}
use Rattle.osi_base.specs.Link.{Link}
use Rattle.osi_base.specs.Calls.{Call}
use Rattle.script_journal.specs.declared.event.Event.{Event}
use Rattle.tp4_conn.specs.End.{IsTimed}
use Rattle.tp4_conn.specs.declared.timers.Timers.{Timers}
use Rattle.tp4_world.specs.Called.{DidAll, KeepsLimits, WorldCall}
use Rattle.tp4_world.specs.First.{IsFirst}
use Rattle.tp4_world.specs.Wire.{world_on_wire}
use Rattle.tp4_world.specs.Run.{Starts}
use Rattle.tp4_world.specs.World.{World}
use Rattle.tp4_world.specs.declared.place.Placed.{Placed}
use Rattle.law_tp4_lawful.specs.First.{AreDistinct, IsUntouched}

-- A network of systems with these titles and timers, to which nothing happened before it started; its start and the calls after it gave these events, and
-- lead to this state. `wrap` is what a receiving half keeps of a number, by its block
pub record AreCalls {C : Type 0} (link : C → Link (List ℕ)) (steps : C → Call (List ℕ) → C → Type 0) (wrap : ℕ → ℕ → ℕ) (titles : List (List ℕ)) (timers : Timers) (journal : List Event) (last : World C) : Type 0 where
  pub made : C
  pub placed : List Placed
  pub begun : List Event
  pub first : World C
  pub calls : List WorldCall
  pub later : List Event
  pub is_first : IsFirst timers.life titles (link made) placed
  pub untouched : AllByRecursion (IsUntouched timers) placed
  pub starts : Starts link steps made placed begun first
  pub did : DidAll link steps wrap first calls later last
  pub journal_is : journal ≡ begun ++ later

-- No two systems have one title, the timers and the calls keep their limits, and the carrier is still honest after the calls: no injection was taken
pub record AreHonestCalls {C : Type 0} (link : C → Link (List ℕ)) (steps : C → Call (List ℕ) → C → Type 0) (wrap : ℕ → ℕ → ℕ) (titles : List (List ℕ)) (timers : Timers) (journal : List Event) (last : World C) : Type 0 where
  pub run : AreCalls link steps wrap titles timers journal last
  pub timed : IsTimed timers
  pub distinct : AreDistinct titles
  pub limits : AllByRecursion KeepsLimits run.calls
  pub honest : (link last.carrier).honest ≡ true

-- over any carrier, while it is honest: it holds of the events and the last state
abbrev pub OnCalls : {C : Type 0} → (C → Link (List ℕ)) → (C → Call (List ℕ) → C → Type 0) → (ℕ → ℕ → ℕ) → (List Event → World C → Type 0) → Type 0
OnCalls {C} link steps wrap Holds = (titles : List (List ℕ)) (timers : Timers) (journal : List Event) (last : World C)
    → AreHonestCalls link steps wrap titles timers journal last → Holds journal last

-- it holds of a network with whole numbers, whose numbers on the wire are those that this one keeps
abbrev pub OfWhole : {C : Type 0} → (List Event → World C → Type 0) → List Event → World C → Type 0
OfWhole {C} Holds journal last = (true_last : World C) × (last ≡ world_on_wire true_last) × Holds journal true_last
