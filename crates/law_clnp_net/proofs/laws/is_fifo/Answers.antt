use Rattle.law_clnp_net.proofs.Carried.{is_fifo}
use Rattle.law_clnp_net.proofs.laws.is_fifo.Goals as goal

pub returns : goal.returns
returns c = is_fifo
