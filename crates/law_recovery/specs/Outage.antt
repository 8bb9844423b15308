-- An outage of a network: what its users may rely on where from one tick on anything may be lost, repeated, delayed and reordered, and from another one on nothing is lost any more. Each two
-- ends that were Opened and up to date before it are Opened still, as long as it is short (X.214, queue model of the transport service; X.224, class 4: retransmission on time-out, inactivity
-- control).
use Rattle.std.specs.Prelude.{◌≡◌, ◌<◌, ℕ, List, ◌∷◌, ◌++◌, None}
use Rattle.std.specs.List.{AllByRecursion}
use Rattle.osi_base.specs.Calls.{Call}
use Rattle.osi_base.specs.Link.{Link, IsLeastFresh}
use Rattle.osi_base.specs.declared.unit.Unit.{Unit as CarriedUnit}
use Rattle.script_journal.specs.declared.event.Event.{Event}
use Rattle.script_lines.specs.Injecting.{HasNoInject}
use Rattle.script_lines.specs.declared.line.Line.{Line}
use Rattle.script_lines.specs.declared.line.Line.TheVariants as lines
use Rattle.tp4_conn.specs.End.{IsTimed}
use Rattle.tp4_conn.specs.declared.timers.Timers.{Timers}
use Rattle.law_tp4_pair.specs.CalmScript.{IsSettledScript}
use Rattle.tp4_world.specs.First.{IsFirst}
use Rattle.tp4_world.specs.Run.{RunsLine, RunsLines, Starts}
use Rattle.tp4_world.specs.World.{World}
use Rattle.tp4_world.specs.declared.place.Placed.{Placed}
use Rattle.law_tp4_lawful.specs.First.{AreDistinct, IsUntouched}
use Rattle.law_tp4_lawful.specs.Limits.{IsProperLine}
use Rattle.law_calm_run.specs.Run.{HaveEntities, IsUnrouted}
use Rattle.law_recovery_run.specs.Ordered.{HasGone, IsReady, OnPrompt, RunsInOrder}
use Rattle.law_recovery_run.specs.Losses.{IsKept}
pub use Rattle.law_recovery_run.specs.Kept.{AreKept, AreKeptCalm}
pub use Rattle.law_recovery_run.specs.ShortOutage.{IsShort}

-- ---- the run

-- A run with an outage: the network at tick s, after the lines `front`; at tick t0, after the `settle` behind the lines `between`, which left nothing to deliver; and now. Of the lines up to that
-- `settle` nothing is asked but that none is an `inject` line; since then each line that does anything is settled, and nothing is dropped
pub record RunsThrough {C : Type 0} (link : C → Link (List ℕ)) (steps : C → Call (List ℕ) → C → Type 0) (wrap : ℕ → ℕ → ℕ) (titles : List (List ℕ)) (first at_s at_t0 last : World C) (script : List Line)
    (early lost late : List Event) : Type 0 where
  pub front : List Line
  pub between : List Line
  pub after : List Line
  pub script_is : script ≡ (front ++ between) ++ lines.Settle ∷ after
  pub no_inject : HasNoInject (front ++ between)
  pub settled : IsSettledScript after
  pub front_run : RunsLines link steps wrap titles first front early at_s
  pub old : World C
  pub made : List Event
  pub here : List Event
  pub lost_is : lost ≡ made ++ here
  pub between_run : RunsLines link steps wrap titles at_s between made old
  pub settle_run : RunsLine link steps wrap titles old lines.Settle here at_t0
  pub none_left : IsLeastFresh (link at_t0.carrier) None
  pub late_run : RunsLines link steps wrap titles at_t0 after late last
  pub kept : AllByRecursion IsKept late
  pub proper : AllByRecursion IsProperLine script
  pub unrouted : AllByRecursion IsUnrouted script

-- ---- each run

-- of each run of a network with an outage, from its start on
abbrev pub OutagesFrom : {C : Type 0} → (C → Link (List ℕ)) → (C → Call (List ℕ) → C → Type 0) → (ℕ → ℕ → ℕ) → List (List ℕ) → C → Type 0
OutagesFrom {C} link steps wrap titles begins =
    (timers : Timers) (made : C) (placed : List Placed) (begun early lost late : List Event) (script : List Line) (first at_s at_t0 last : World C) → first.carrier ≡ begins
    → IsTimed timers → timers.window < timers.inactive → AreDistinct titles → HaveEntities titles placed
    → IsFirst timers.life titles (link made) placed → AllByRecursion (IsUntouched timers) placed → Starts link steps made placed begun first
    → RunsThrough link steps wrap titles first at_s at_t0 last script early lost late → AreKept link timers at_s at_t0 last (begun ++ early) lost late

-- and of each one that is calm up to tick s: nothing is left to deliver at its start, up to s each line that does anything is settled, and nothing is dropped
abbrev pub CalmOutagesFrom : {C : Type 0} → (C → Link (List ℕ)) → (C → Call (List ℕ) → C → Type 0) → (ℕ → ℕ → ℕ) → List (List ℕ) → C → Type 0
CalmOutagesFrom {C} link steps wrap titles begins =
    (timers : Timers) (made : C) (placed : List Placed) (begun early lost late : List Event) (script : List Line) (first at_s at_t0 last : World C) → first.carrier ≡ begins
    → IsTimed timers → timers.window < timers.inactive → AreDistinct titles → HaveEntities titles placed
    → IsFirst timers.life titles (link made) placed → AllByRecursion (IsUntouched timers) placed → Starts link steps made placed begun first
    → (run : RunsThrough link steps wrap titles first at_s at_t0 last script early lost late) → IsLeastFresh (link begins) None → IsSettledScript run.front → AllByRecursion IsKept early
    → AreKeptCalm link timers at_s at_t0 last (begun ++ early) lost late

-- ---- each carrier

-- where lines that are settled and lose nothing go in order from a state of the carrier on, whatever tells what waits in it
abbrev pub AreOrdered : {C : Type 0} → (C → Link (List ℕ)) → (C → Call (List ℕ) → C → Type 0) → List (List ℕ) → C → Type 0
AreOrdered {C} link steps titles begins = (old last : World C) (script : List Line) (late : List Event) → IsReady link steps titles begins old → RunsInOrder link steps titles old script late last
    → HasGone link titles (λ (state : C) (queue : List (CarriedUnit (List ℕ))). Prim.Unit {0}) old late last

-- over each carrier that serves again once nothing is lost
abbrev pub OutagesOnPrompt : {C : Type 0} → (C → Link (List ℕ)) → (C → Call (List ℕ) → C → Type 0) → (ℕ → ℕ → ℕ) → Type 0
OutagesOnPrompt link steps wrap = OnPrompt link steps (λ titles begins Waits. OutagesFrom link steps wrap titles begins)

abbrev pub CalmOutagesOnPrompt : {C : Type 0} → (C → Link (List ℕ)) → (C → Call (List ℕ) → C → Type 0) → (ℕ → ℕ → ℕ) → Type 0
CalmOutagesOnPrompt link steps wrap = OnPrompt link steps (λ titles begins Waits. CalmOutagesFrom link steps wrap titles begins)
