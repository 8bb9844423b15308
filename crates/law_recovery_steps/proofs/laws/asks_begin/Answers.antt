use Rattle.law_recovery_steps.proofs.Unconfirmed.{asks_begin}
use Rattle.law_recovery_steps.proofs.laws.asks_begin.Goals as goal

pub returns : goal.returns
returns c = asks_begin
