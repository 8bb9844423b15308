-- Over each carrier that serves again once nothing is lost, whatever relation tells what waits in it, lines that are settled and lose nothing bring an end in CrWait, and one in AkWait beside it, where they are
-- claimed to come.
use Rattle.std.proofs.Common.{ℕ, List, []}
use Rattle.osi_base.specs.Calls.{Call, Keeps}
use Rattle.osi_base.specs.Link.{Link}
use Rattle.osi_base.specs.declared.unit.Unit.{Unit as CarriedUnit}
use Rattle.net_world.specs.Prompt.{IsPrompt}
use Rattle.law_tp4_history.specs.Ends.{Times}
use Rattle.law_tp4_history.specs.Journals.{Written}
use Rattle.law_tp4_history.specs.Tracks.{IsNothing, Whole}
use Rattle.law_tp4_lawful.proofs.ActsLines.{Flowing}
use Rattle.law_tp4_lawful.proofs.CalledStarts.{followed_by}
use Rattle.law_tp4_lawful.proofs.MeetsOthers.{KnowsTaken}
use Rattle.law_recovery_run.specs.Ordered.{ReachedFrom}
use Rattle.law_recovery_run.proofs.Aiming.{Going}
use Rattle.law_recovery.specs.AskingAlong.{AcceptsAlong, AsksAlong}
use Rattle.law_recovery.proofs.AskingStarts.{accepts_along, asks_along}
use Rattle.law_recovery.proofs.Starting.{explained_by}

module _ {C : Type 0} (link : C → Link (List ℕ)) (steps : C → Call (List ℕ) → C → Type 0) (law : (old : C) (call : Call (List ℕ)) (new : C) → steps old call new → Keeps (link old) call (link new))
    (flowing : Flowing) (knows : KnowsTaken) (begun : (times : Times) (titles : List (List ℕ)) (w : Whole) → IsNothing w → Written times titles w []) (going : Going) where
  pub asks_over : (titles : List (List ℕ)) (begins : C) (Waits : C → List (CarriedUnit (List ℕ)) → Type 0) → IsPrompt link steps titles (ReachedFrom link steps titles begins) Waits → AsksAlong link steps titles begins
  asks_over titles begins Waits prompt timers early late old last script x b r calls ready stands unanswered listens run past =
      asks_along link steps law titles begins Waits prompt going (followed_by flowing knows) early late old last script x b r (explained_by link steps law flowing knows begun titles timers early old calls) ready stands run unanswered listens past

  pub accepts_over : (titles : List (List ℕ)) (begins : C) (Waits : C → List (CarriedUnit (List ℕ)) → Type 0) → IsPrompt link steps titles (ReachedFrom link steps titles begins) Waits
      → AcceptsAlong link steps titles begins
  accepts_over titles begins Waits prompt timers early late old last script x y b r f v calls ready stands there stage address called run past =
      accepts_along link steps law titles begins Waits prompt going (followed_by flowing knows) early late old last script x b r (explained_by link steps law flowing knows begun titles timers early old calls) ready stands run y f v there stage address
      called past
