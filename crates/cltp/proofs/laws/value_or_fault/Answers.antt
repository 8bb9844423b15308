use Rattle.cltp.proofs.Answer.{apart, either}
use Rattle.cltp.proofs.laws.value_or_fault.Goals as goal

pub returns : goal.returns
returns c = record { apart = apart; all = either }
