use Rattle.law_clnp_net.proofs.reached.Begun.{begins_reached}
use Rattle.law_clnp_net.proofs.laws.begins_reached.Goals as goal

pub returns : goal.returns
returns c = begins_reached
