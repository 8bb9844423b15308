use Rattle.law_run.specs.World.{first_world}
use Rattle.law_run.proofs.WorldLaws.{one_run}
use Rattle.law_run.proofs.laws.one_journal.Goals as goal

pub returns : goal.returns
returns c script = one_run script first_world
