-- What is known of a direction has what is known of its units.
use Rattle.std.proofs.Common.{Option, ◌∙◌, subst, ℕ}
use Rattle.tp4_flow.specs.ReceivingHalf.{Half}
use Rattle.tp4_sending.specs.SendingHalf.{FlowSender}
use Rattle.tp4_sending.specs.Kept.{urgent_base}
use Rattle.tp4_sending.specs.declared.tries.Tries.{Tries}
use Rattle.law_tp4_pair.specs.Pair.{Account}
use Rattle.law_recovery_steps.specs.Known.{IsKnownAt}
use Rattle.law_recovery_steps.specs.Showing.{AreCarried}

pub known_carried : (life now : ℕ) (s : FlowSender) (h : Half) (units : Account) → IsKnownAt life now s h units → AreCarried s h units
known_carried life now s h units k = record {
  some = k.some;
  full = k.full;
  acknowledged = k.acknowledged;
  normal = k.normal;
  first = k.first;
  complete = k.complete;
  answered = k.answered;
  expedited = k.expedited;
  answers = λ none. k.answers ∙ subst (λ (o : Option Tries). urgent_base s.urgent o k.urgent.base) none k.urgent_base_is;
  urged = k.urged;
}
