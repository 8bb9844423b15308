use Rattle.law_recovery_scripts.proofs.Prompt.{nets_prompt}
use Rattle.law_recovery_scripts.proofs.laws.nets_are_prompt.Goals as goal

pub returns : goal.returns
returns c = nets_prompt
