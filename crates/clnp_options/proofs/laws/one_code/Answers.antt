use Rattle.clnp_options.proofs.Reasons.{one_code}
use Rattle.clnp_options.proofs.laws.one_code.Goals as goal

pub returns : goal.returns
returns c = one_code
