use Rattle.law_recovery.proofs.Numbers.{left_over}
use Rattle.law_recovery.proofs.laws.left_are_over.Goals as goal

pub returns : goal.returns
returns g c last x left e o at opened = left_over last x left e o at opened
