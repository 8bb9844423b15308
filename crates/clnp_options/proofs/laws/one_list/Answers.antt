use Rattle.clnp_options.proofs.Allowing.{one_list_is}
use Rattle.clnp_options.proofs.laws.one_list.Goals as goal

pub returns : goal.returns
returns c = λ kind octets one other is also. one_list_is kind octets one other is also
