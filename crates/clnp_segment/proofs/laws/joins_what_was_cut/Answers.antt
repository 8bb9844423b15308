use Rattle.clnp_segment.proofs.Deliveries.{joins_what_was_cut}
use Rattle.clnp_segment.proofs.laws.joins_what_was_cut.Goals as goal

pub returns : goal.returns
returns c = joins_what_was_cut
