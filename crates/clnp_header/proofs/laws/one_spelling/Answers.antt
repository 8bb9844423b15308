use Rattle.clnp_header.proofs.Spelled.{one_list}
use Rattle.clnp_header.proofs.laws.one_spelling.Goals as goal

pub returns : goal.returns
returns c = one_list
