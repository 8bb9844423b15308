use Rattle.inactive_step.proofs.Seen.{read_back}
use Rattle.inactive_step.proofs.laws.comes_back.Goals as goal

pub returns : goal.returns
returns c = λ rows unit way system apart is. read_back rows unit way system apart is
