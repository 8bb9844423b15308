use Rattle.law_tp4_associations.proofs.Waiting.{accepts, answerable}
use Rattle.law_tp4_associations.proofs.laws.accepts.Goals as goal

pub returns : goal.returns
returns c = record { answerable = λ timers own. answerable timers own; pair = λ timers own. accepts timers own }
