use Rattle.clnp_route.proofs.Prefixes.{one_hop}
use Rattle.clnp_route.proofs.laws.one_next.Goals as goal

pub returns : goal.returns
returns c = one_hop
