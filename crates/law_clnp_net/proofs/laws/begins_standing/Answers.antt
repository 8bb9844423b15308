use Rattle.law_clnp_net.proofs.Always.{begins_standing}
use Rattle.law_clnp_net.proofs.laws.begins_standing.Goals as goal

pub returns : goal.returns
returns c = begins_standing
