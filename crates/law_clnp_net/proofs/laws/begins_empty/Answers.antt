use Rattle.law_clnp_net.proofs.Carried.{begins_empty}
use Rattle.law_clnp_net.proofs.laws.begins_empty.Goals as goal

pub returns : goal.returns
returns c = begins_empty
