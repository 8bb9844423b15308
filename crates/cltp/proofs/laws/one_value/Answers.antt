use Rattle.cltp.proofs.Answer.{same_value}
use Rattle.cltp.proofs.laws.one_value.Goals as goal

pub returns : goal.returns
returns c = same_value
