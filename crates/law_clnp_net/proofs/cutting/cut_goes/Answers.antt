use Rattle.law_clnp_net.proofs.joining.Sent.{cut_goes}
use Rattle.law_clnp_net.proofs.cutting.cut_goes.Goals as goal

pub returns : goal.returns
returns c s = cut_goes
