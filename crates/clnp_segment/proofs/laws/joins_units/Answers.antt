use Rattle.clnp_segment.proofs.Joins.{joins_units}
use Rattle.clnp_segment.proofs.laws.joins_units.Goals as goal

pub returns : goal.returns
returns c = joins_units
