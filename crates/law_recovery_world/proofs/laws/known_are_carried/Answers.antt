use Rattle.law_recovery_world.proofs.Carried.{known_carried}
use Rattle.law_recovery_world.proofs.laws.known_are_carried.Goals as goal

pub returns : goal.returns
returns c = known_carried
