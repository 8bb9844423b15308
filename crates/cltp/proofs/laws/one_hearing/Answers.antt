use Rattle.cltp.proofs.Hearings.{one_hearing}
use Rattle.cltp.proofs.laws.one_hearing.Goals as goal

pub returns : goal.returns
returns c = one_hearing
