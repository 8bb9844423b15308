use Rattle.clnp_header.proofs.Answered.{one_value}
use Rattle.clnp_header.proofs.laws.one_value.Goals as goal

pub returns : goal.returns
returns c = one_value
