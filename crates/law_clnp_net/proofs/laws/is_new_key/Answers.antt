use Rattle.law_clnp_net.proofs.Fresh.{is_new}
use Rattle.law_clnp_net.proofs.laws.is_new_key.Goals as goal

pub returns : goal.returns
returns c = is_new
