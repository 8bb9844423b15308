use Rattle.osi_storm.proofs.Generated.{generated_run}
use Rattle.osi_storm.proofs.laws.generated_scripts_run.Goals as goal

pub returns : goal.returns
returns c = generated_run
