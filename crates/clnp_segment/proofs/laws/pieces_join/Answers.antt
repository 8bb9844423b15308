use Rattle.clnp_segment.proofs.Cuttings.{pieces_join}
use Rattle.clnp_segment.proofs.laws.pieces_join.Goals as goal

pub returns : goal.returns
returns c = pieces_join
