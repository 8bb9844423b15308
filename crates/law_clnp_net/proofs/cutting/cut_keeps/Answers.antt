use Rattle.law_clnp_net.proofs.joining.Sent.{cut_keeps}
use Rattle.law_clnp_net.proofs.cutting.cut_keeps.Goals as goal

pub returns : goal.returns
returns c s = cut_keeps
