use Rattle.clnp_options.proofs.Found.{allowed_changed}
use Rattle.clnp_options.proofs.laws.changed_value.Goals as goal

pub returns : goal.returns
returns c = λ kind before after option changed allowed same known. allowed_changed kind before after option changed allowed same known
