use Rattle.clnp_segment.proofs.Cuttings.{one_cutting}
use Rattle.clnp_segment.proofs.laws.one_cutting.Goals as goal

pub returns : goal.returns
returns c = one_cutting
