use Rattle.clnp_system.proofs.Outgoing.{sent_is}
use Rattle.clnp_system.proofs.laws.sent.Goals as goal

pub returns : goal.returns
returns c s = sent_is
