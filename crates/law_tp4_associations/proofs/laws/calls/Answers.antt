use Rattle.law_tp4_associations.proofs.Called.{calls}
use Rattle.law_tp4_associations.proofs.laws.calls.Goals as goal

pub returns : goal.returns
returns c = λ timers own. calls timers own
