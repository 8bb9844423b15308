use Rattle.tp4_sending.proofs.Dues.{least}
use Rattle.tp4_sending.proofs.laws.due_is_least.Goals as goal

pub returns : goal.returns
returns c = least
