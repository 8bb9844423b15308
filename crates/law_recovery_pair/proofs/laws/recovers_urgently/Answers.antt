use Rattle.law_recovery_pair.proofs.Answering.{all_urgent}
use Rattle.law_recovery_pair.proofs.laws.recovers_urgently.Goals as goal

pub returns : goal.returns
returns c = all_urgent
