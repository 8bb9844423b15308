use Rattle.clnp_system.proofs.Arriving.{stored_is}
use Rattle.clnp_system.proofs.laws.stored.Goals as goal

pub returns : goal.returns
returns c s = stored_is
