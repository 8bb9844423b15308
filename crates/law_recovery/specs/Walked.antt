-- Two ends along the lines of runs from a state of a carrier on, whatever tells what waits in it, and what the lines tell of them (X.213, queue model; X.224, class 4 procedures).
use Rattle.std.specs.Prelude.{◌<◌, ℕ, List, []}
use Rattle.osi_base.specs.Calls.{Call}
use Rattle.osi_base.specs.Link.{Link}
use Rattle.script_journal.specs.declared.event.Event.{Event}
use Rattle.script_lines.specs.declared.line.Line.{Line}
use Rattle.tp4_number.specs.Number.{whole}
use Rattle.tp4_conn.specs.declared.states.InOpened.{InOpened}
use Rattle.tp4_conn.specs.declared.timers.Timers.{Timers}
use Rattle.law_tp4_pair.specs.Pair.{Pair}
use Rattle.tp4_world.specs.World.{World}
use Rattle.law_tp4_lawful.specs.Called.{AreHonestCalls}
use Rattle.law_recovery_world.specs.Partners.{IsPairOf}
use Rattle.law_recovery_run.specs.Ordered.{IsReady, RunsInOrder}
use Rattle.law_recovery_run.specs.Following.{IsFollowed, IsLive}
use Rattle.law_recovery.specs.Moving.{HasLastedTold}
use Rattle.law_recovery.specs.Outcome.{HaveComeTo}

-- In a network in which nothing is left to deliver, lines that are settled and lose nothing are steps of each two ends that are Opened or Closing and know each other, and tell what happens to
-- them; as `RunsAreTold` has it over each carrier that serves again
abbrev pub AreWalked : {C : Type 0} → (C → Link (List ℕ)) → (C → Call (List ℕ) → C → Type 0) → List (List ℕ) → C → Type 0
AreWalked {C} link steps titles begins = (timers : Timers) (early late : List Event) (old last : World C) (script : List Line) (x y : ℕ) (p : Pair)
    → AreHonestCalls link steps whole titles timers early old → IsReady link steps titles begins old → IsFollowed link early old [] x y p → IsLive p.calling.stage → IsLive p.called.stage
    → RunsInOrder link steps titles old script late last → HasLastedTold link early late last x y p

-- Of two partners that are Opened in such a network, and of which W is less than I, such lines are steps of their pair; both are Opened still, or the lines tell that one went by its user, or by
-- a cause of that tick or before, and neither is Opened any more
abbrev pub TellsFrom : {C : Type 0} → (C → Link (List ℕ)) → (C → Call (List ℕ) → C → Type 0) → List (List ℕ) → C → Type 0
TellsFrom {C} link steps titles begins = (timers : Timers) (early late : List Event) (old last : World C) (script : List Line) (x y : ℕ) (p : Pair) (o q : InOpened)
    → AreHonestCalls link steps whole titles timers early old → timers.window < timers.inactive → IsReady link steps titles begins old → IsPairOf link early old x y p o q
    → RunsInOrder link steps titles old script late last → HaveComeTo link timers (link old.carrier).clock early late last x y p o q
