use Rattle.clnp_route.proofs.Prefixes.{next_found}
use Rattle.clnp_route.proofs.laws.next_is_longest.Goals as goal

pub returns : goal.returns
returns c = next_found
