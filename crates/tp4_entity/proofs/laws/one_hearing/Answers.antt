use Rattle.tp4_entity.proofs.Hearings.{one_taking}
use Rattle.tp4_entity.proofs.laws.one_hearing.Goals as goal

pub returns : goal.returns
returns c = one_taking
