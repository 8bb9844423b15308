use Rattle.clnp_segment.proofs.Rooms.{none_is_full}
use Rattle.clnp_segment.proofs.laws.none_is_full.Goals as goal

pub returns : goal.returns
returns c = none_is_full
