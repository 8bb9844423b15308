-- Over each carrier that serves again once nothing is lost, whatever relation tells what waits in it, lines that are settled and lose nothing are steps of each two ends that know each other.
use Rattle.std.proofs.Common.{ℕ, List, []}
use Rattle.osi_base.specs.Calls.{Call, Keeps}
use Rattle.osi_base.specs.Link.{Link}
use Rattle.osi_base.specs.declared.unit.Unit.{Unit as CarriedUnit}
use Rattle.script_journal.specs.declared.event.Event.{Event}
use Rattle.net_world.specs.Prompt.{IsPrompt}
use Rattle.law_tp4_history.specs.Ends.{Times}
use Rattle.law_tp4_history.specs.Journals.{Written}
use Rattle.law_tp4_history.specs.Tracks.{IsNothing, Whole}
use Rattle.law_tp4_lawful.proofs.ActsLines.{Flowing}
use Rattle.law_tp4_lawful.proofs.CalledStarts.{followed_by, on_whole}
use Rattle.law_tp4_lawful.proofs.MeetsOthers.{KnowsTaken}
use Rattle.law_tp4_associations.proofs.EndedWorlds.{IsFitWorld}
use Rattle.law_recovery_run.specs.Ordered.{ReachedFrom}
use Rattle.law_recovery_run.proofs.Aiming.{Going}
use Rattle.law_recovery_run.proofs.Fitting.{calls_fit}
use Rattle.law_recovery_run.proofs.Settling.{IsExplained}
use Rattle.law_recovery.proofs.Starting.{runs_told}
use Rattle.law_recovery.specs.Walked.{AreWalked}

module _ {C : Type 0} (link : C → Link (List ℕ)) (steps : C → Call (List ℕ) → C → Type 0) (law : (old : C) (call : Call (List ℕ)) (new : C) → steps old call new → Keeps (link old) call (link new))
    (flowing : Flowing) (knows : KnowsTaken) (begun : (times : Times) (titles : List (List ℕ)) (w : Whole) → IsNothing w → Written times titles w []) (going : Going) where
  pub walked : (titles : List (List ℕ)) (first : C) (Waits : C → List (CarriedUnit (List ℕ)) → Type 0) → IsPrompt link steps titles (ReachedFrom link steps titles first) Waits → AreWalked link steps titles first
  walked titles first Waits prompt timers early late old last script x y p calls ready followed live live_there run =
      let explained = on_whole link steps law flowing knows begun (λ (journal : List Event) world. IsFitWorld link world → IsExplained link journal world)
      (λ titles timers w journal world explains fit. record { titles = titles; timers = timers; w = w; explains = explains; fit = fit }) titles timers early old calls
      (calls_fit link steps law titles timers early old calls) in
      runs_told link steps law titles first Waits prompt going (followed_by flowing knows) early late old last script x y p explained ready followed live live_there run
