use Rattle.clnp_header.proofs.Answered.{one_front}
use Rattle.clnp_header.proofs.laws.one_front.Goals as goal

pub returns : goal.returns
returns c = one_front
