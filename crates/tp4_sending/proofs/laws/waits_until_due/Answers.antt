use Rattle.tp4_sending.proofs.Dues.{before_due}
use Rattle.tp4_sending.proofs.Laters.{tick_later}
use Rattle.tp4_sending.proofs.laws.waits_until_due.Goals as goal

pub returns : goal.returns
returns c = record { before = before_due; after = tick_later }
