use Rattle.law_clnp_net.proofs.Always.{begins_serving}
use Rattle.law_clnp_net.proofs.laws.begins_serving.Goals as goal

pub returns : goal.returns
returns c = begins_serving
