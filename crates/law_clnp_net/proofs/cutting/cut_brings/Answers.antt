use Rattle.law_clnp_net.proofs.joining.Brings.{cut_brings}
use Rattle.law_clnp_net.proofs.cutting.cut_brings.Goals as goal

pub returns : goal.returns
returns c s = cut_brings
