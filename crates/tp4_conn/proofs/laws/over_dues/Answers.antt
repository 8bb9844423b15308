use Rattle.tp4_conn.proofs.Dues.{running_due}
use Rattle.tp4_conn.proofs.laws.over_dues.Goals as goal

pub returns : goal.returns
returns c = running_due
