use Rattle.clnp_header.proofs.Spelled.{one_writing}
use Rattle.clnp_header.proofs.laws.one_writing.Goals as goal

pub returns : goal.returns
returns c = one_writing
