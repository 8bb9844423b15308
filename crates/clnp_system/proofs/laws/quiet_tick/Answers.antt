use Rattle.clnp_system.proofs.Outgoing.{quiet_tick_is}
use Rattle.clnp_system.proofs.laws.quiet_tick.Goals as goal

pub returns : goal.returns
returns c s = quiet_tick_is
