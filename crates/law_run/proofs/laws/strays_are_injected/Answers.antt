use Rattle.law_run.proofs.Lawful.{unstrayed}
use Rattle.law_run.proofs.laws.strays_are_injected.Goals as goal

pub returns : goal.returns
returns c = unstrayed
