use Rattle.clnp_segment.proofs.Units.{joins_all}
use Rattle.clnp_segment.proofs.laws.joins_all.Goals as goal

pub returns : goal.returns
returns c = joins_all
