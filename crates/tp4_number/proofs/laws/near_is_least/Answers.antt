use Rattle.tp4_number.proofs.Numbers.{near_first}
use Rattle.tp4_number.proofs.laws.near_is_least.Goals as goal

pub returns : goal.returns
returns c = near_first
