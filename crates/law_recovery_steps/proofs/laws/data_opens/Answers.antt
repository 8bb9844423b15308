use Rattle.law_recovery_steps.proofs.Opening.{data_opens}
use Rattle.law_recovery_steps.proofs.laws.data_opens.Goals as goal

pub returns : goal.returns
returns c = data_opens
