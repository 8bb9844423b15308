use Rattle.law_run.proofs.Calm.{serves}
use Rattle.law_run.proofs.laws.calm_scripts_are_served.Goals as goal

pub returns : goal.returns
returns c = serves c.whole_run.ensures.run c.whole_run.ensures.whole
