use Rattle.law_clnp_net.proofs.Prompt.{is_prompt}
use Rattle.law_clnp_net.proofs.laws.is_prompt.Goals as goal

pub returns : goal.returns
returns c = is_prompt
