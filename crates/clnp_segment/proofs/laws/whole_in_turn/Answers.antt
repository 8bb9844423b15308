use Rattle.clnp_segment.proofs.Wholes.{whole_in_turn}
use Rattle.clnp_segment.proofs.laws.whole_in_turn.Goals as goal

pub returns : goal.returns
returns c = whole_in_turn
