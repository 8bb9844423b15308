use Rattle.law_clnp_net.proofs.Hellos.{router_is_told}
use Rattle.law_clnp_net.proofs.laws.router_is_told.Goals as goal

pub returns : goal.returns
returns c = router_is_told
