use Rattle.law_recovery_run.proofs.Ticking.{sends_again}
use Rattle.law_recovery_run.proofs.laws.requests_are_sent_again.Goals as goal

pub returns : goal.returns
returns c = sends_again
