use Rattle.law_tp4_associations.proofs.Connecting.{connects}
use Rattle.law_tp4_associations.proofs.laws.connects.Goals as goal

pub returns : goal.returns
returns c = λ timers own. connects timers own
