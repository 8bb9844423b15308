-- In a calm run each two partner ends that are both open are a pair that went from its accept to them (X.214, queue model of the transport service).
use Rattle.std.specs.Prelude.{◌++◌, ℕ, List}
use Rattle.osi_base.specs.Calls.{Call}
use Rattle.osi_base.specs.Link.{Link}
use Rattle.osi_base.specs.declared.unit.Unit.{Unit as CarriedUnit}
use Rattle.script_journal.specs.declared.event.Event.{Event}
use Rattle.script_lines.specs.declared.line.Line.{Line}
use Rattle.tp4_conn.specs.declared.timers.Timers.{Timers}
use Rattle.law_tp4_history.specs.Journals.{IsAside}
use Rattle.law_tp4_pair.specs.Claim.{AllShown}
use Rattle.law_tp4_pair.specs.Pairs.{ArePairs}
use Rattle.tp4_world.specs.World.{World}
use Rattle.law_calm_run.specs.Run.{IsCalmRun, IsStart}
use Rattle.law_calm_run.specs.Service.{end_at_number}

-- by the journal of a start that makes no end, and of lines that are settled
abbrev pub HavePairs : {C : Type 0} → (C → Link (List ℕ)) → (C → Call (List ℕ) → C → Type 0) → (ℕ → ℕ → ℕ) → List (List ℕ) → (C → List (CarriedUnit (List ℕ)) → Type 0) → Type 0
HavePairs {C} link steps wrap titles Waits =
    (timers : Timers) (first last : World C) (script : List Line) (begun journal : List Event) → IsStart titles timers Waits first → IsAside begun
    → IsCalmRun link steps wrap titles first script journal last → ArePairs (begun ++ journal) (end_at_number last)

-- so each shows what the other submitted, but for want of credit or for what the number rule holds back at the tick of the carrier's clock
abbrev pub ShowAll : {C : Type 0} → (C → Link (List ℕ)) → (C → Call (List ℕ) → C → Type 0) → (ℕ → ℕ → ℕ) → List (List ℕ) → (C → List (CarriedUnit (List ℕ)) → Type 0) → Type 0
ShowAll {C} link steps wrap titles Waits =
    (timers : Timers) (first last : World C) (script : List Line) (begun journal : List Event) → IsStart titles timers Waits first → IsAside begun
    → IsCalmRun link steps wrap titles first script journal last → AllShown (link last.carrier).clock (begun ++ journal) (end_at_number last)
