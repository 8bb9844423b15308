-- An end whose partner has left, along the lines of a run, since when nothing is lost (X.224, class 4: retransmission on time-out, inactivity control).
use Rattle.std.specs.Prelude.{ℕ, List}
use Rattle.osi_base.specs.Calls.{Call}
use Rattle.osi_base.specs.Link.{Link}
use Rattle.script_journal.specs.declared.event.Event.{Event}
use Rattle.script_lines.specs.declared.line.Line.{Line}
use Rattle.tp4_number.specs.Number.{whole}
use Rattle.tp4_conn.specs.declared.timers.Timers.{Timers}
use Rattle.tp4_world.specs.World.{World}
use Rattle.law_tp4_lawful.specs.Called.{AreHonestCalls}
use Rattle.law_recovery_run.specs.Ordered.{IsReady, RunsInOrder}
use Rattle.law_recovery_run.specs.Halves.{HalvesFollow}

-- In a network in which nothing is left to deliver, lines that are settled and lose nothing leave no end Opened or in AkWait beside a partner that had left before
abbrev pub FollowsAlong : {C : Type 0} → (C → Link (List ℕ)) → (C → Call (List ℕ) → C → Type 0) → List (List ℕ) → C → Type 0
FollowsAlong {C} link steps titles first = (timers : Timers) (early late : List Event) (old last : World C) (script : List Line)
    → AreHonestCalls link steps whole titles timers early old → IsReady link steps titles first old → RunsInOrder link steps titles old script late last
    → HalvesFollow timers (link old.carrier).clock (link last.carrier).clock early old last
