use Rattle.cltp.proofs.Answer.{same_fault}
use Rattle.cltp.proofs.laws.one_fault.Goals as goal

pub returns : goal.returns
returns c = same_fault
