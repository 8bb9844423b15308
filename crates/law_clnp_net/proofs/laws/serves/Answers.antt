use Rattle.law_clnp_net.proofs.Always.{serves}
use Rattle.law_clnp_net.proofs.laws.serves.Goals as goal

pub returns : goal.returns
returns c = serves
