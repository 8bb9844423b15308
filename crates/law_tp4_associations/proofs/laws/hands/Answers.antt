use Rattle.law_tp4_associations.proofs.Handed.{handed}
use Rattle.law_tp4_associations.proofs.Waiting.{addressed, formatted}
use Rattle.law_tp4_associations.proofs.laws.hands.Goals as goal

pub returns : goal.returns
returns c = record { handed = λ timers own. handed timers own; addressed = λ timers own. addressed timers own; formatted = λ timers own. formatted timers own }
