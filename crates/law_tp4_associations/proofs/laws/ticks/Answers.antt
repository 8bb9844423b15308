use Rattle.law_tp4_associations.proofs.Ticking.{ticks_so}
use Rattle.law_tp4_associations.proofs.laws.ticks.Goals as goal

pub returns : goal.returns
returns c = ticks_so
