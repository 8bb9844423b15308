use Rattle.clnp_system.proofs.Outgoing.{derived_is}
use Rattle.clnp_system.proofs.laws.derived.Goals as goal

pub returns : goal.returns
returns c s = derived_is
