-- What comes of half-open ends, and of indications, in each run of a network that recovers, from its start on (X.213, queue model; X.224, class 4 procedures).
use Rattle.std.specs.Prelude.{◌≡◌, ℕ, List, ◌++◌}
use Rattle.osi_base.specs.Calls.{Call}
use Rattle.osi_base.specs.Link.{Link}
use Rattle.script_journal.specs.declared.event.Event.{Event}
use Rattle.script_lines.specs.declared.line.Line.{Line}
use Rattle.tp4_conn.specs.declared.timers.Timers.{Timers}
use Rattle.tp4_world.specs.World.{World}
use Rattle.law_recovery_run.specs.Run.{RunsOn}
use Rattle.law_recovery_run.specs.Ready.{HasStarted}
use Rattle.law_recovery_run.specs.Halves.{HalvesFollow, IndicationsEnd}

-- Of each run of a network that recovers, from its start on, where `wrap` is what a receiving half keeps of a number, by its block: no end is left Opened or in AkWait beside a partner that had
-- left at its recovering settle
abbrev pub FollowsFrom : {C : Type 0} → (C → Link (List ℕ)) → (C → Call (List ℕ) → C → Type 0) → (ℕ → ℕ → ℕ) → List (List ℕ) → C → Type 0
FollowsFrom {C} link steps wrap titles begins = (timers : Timers) (begun early late : List Event) (script : List Line) (first at_t0 last : World C) → first.carrier ≡ begins
    → HasStarted link steps titles timers begun first → RunsOn link steps wrap titles first at_t0 last script early late
    → HalvesFollow timers (link at_t0.carrier).clock (link last.carrier).clock (begun ++ early) at_t0 last

-- And no end is left whose user has not answered its indication for I ticks, whatever the carrier begins with
abbrev pub IndicationsFrom : {C : Type 0} → (C → Link (List ℕ)) → (C → Call (List ℕ) → C → Type 0) → (ℕ → ℕ → ℕ) → List (List ℕ) → Type 0
IndicationsFrom {C} link steps wrap titles = (timers : Timers) (begun early late : List Event) (script : List Line) (first at_t0 last : World C)
    → HasStarted link steps titles timers begun first → RunsOn link steps wrap titles first at_t0 last script early late → IndicationsEnd timers (link last.carrier).clock last
