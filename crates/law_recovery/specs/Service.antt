-- The claim of ends in CrWait of each run of a network that recovers, from its start on, over each carrier that serves again once nothing is lost (X.213, queue model of the network
-- connectionless-mode service; X.214, queue model of the transport service).
use Rattle.std.specs.Prelude.{◌≡◌, ℕ, List, ◌++◌}
use Rattle.std.specs.List.{AllByRecursion}
use Rattle.osi_base.specs.Calls.{Call}
use Rattle.osi_base.specs.Link.{Link}
use Rattle.script_journal.specs.declared.event.Event.{Event}
use Rattle.script_lines.specs.declared.line.Line.{Line}
use Rattle.tp4_conn.specs.End.{IsTimed}
use Rattle.tp4_conn.specs.declared.timers.Timers.{Timers}
use Rattle.tp4_world.specs.First.{IsFirst}
use Rattle.tp4_world.specs.Run.{Starts}
use Rattle.tp4_world.specs.World.{World}
use Rattle.tp4_world.specs.declared.place.Placed.{Placed}
use Rattle.law_tp4_lawful.specs.First.{AreDistinct, IsUntouched}
use Rattle.law_calm_run.specs.Run.{HaveEntities}
use Rattle.law_recovery_run.specs.Ordered.{OnPrompt}
use Rattle.law_recovery_run.specs.Run.{RunsOn}
pub use Rattle.law_recovery_run.specs.Asked.{AreAccepted, AreAsked, By_itself, By_user, Confirmed, HaveAsked, IsExhausted, IsIndicatedNow, IsNamedCause, IsOpenStill, IsTold, IsUnregistered}

-- of each run of a network that recovers, from its start on
abbrev pub AsksFrom : {C : Type 0} → (C → Link (List ℕ)) → (C → Call (List ℕ) → C → Type 0) → (ℕ → ℕ → ℕ) → List (List ℕ) → C → Type 0
AsksFrom {C} link steps wrap titles begins =
    (timers : Timers) (made : C) (placed : List Placed) (begun early late : List Event) (script : List Line) (first at_t0 last : World C) → first.carrier ≡ begins
    → IsTimed timers → AreDistinct titles → HaveEntities titles placed
    → IsFirst timers.life titles (link made) placed → AllByRecursion (IsUntouched timers) placed → Starts link steps made placed begun first
    → RunsOn link steps wrap titles first at_t0 last script early late → HaveAsked link timers at_t0 last (begun ++ early) late

-- over each carrier that serves again once nothing is lost
abbrev pub AsksOnPrompt : {C : Type 0} → (C → Link (List ℕ)) → (C → Call (List ℕ) → C → Type 0) → (ℕ → ℕ → ℕ) → Type 0
AsksOnPrompt link steps wrap = OnPrompt link steps (λ titles begins Waits. AsksFrom link steps wrap titles begins)
