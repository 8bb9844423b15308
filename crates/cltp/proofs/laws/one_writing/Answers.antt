use Rattle.cltp.proofs.Written.{one_writing}
use Rattle.cltp.proofs.laws.one_writing.Goals as goal

pub returns : goal.returns
returns c = one_writing
