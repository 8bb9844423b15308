use Rattle.clnp_segment.proofs.CutRuns.{cut_alike}
use Rattle.clnp_segment.proofs.laws.cut_alike.Goals as goal

pub returns : goal.returns
returns c = cut_alike
