use Rattle.clnp_system.proofs.Arriving.{comes_up_is}
use Rattle.clnp_system.proofs.laws.comes_up.Goals as goal

pub returns : goal.returns
returns c s = comes_up_is
