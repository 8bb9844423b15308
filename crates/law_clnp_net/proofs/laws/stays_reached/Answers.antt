use Rattle.law_clnp_net.proofs.reached.Steps.{reached_net}
use Rattle.law_clnp_net.proofs.laws.stays_reached.Goals as goal

pub returns : goal.returns
returns c = reached_net
