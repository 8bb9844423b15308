use Rattle.law_run.proofs.Lawful.{raw_lawful}
use Rattle.law_run.proofs.laws.raw_units_are_lawful.Goals as goal

pub returns : goal.returns
returns c = raw_lawful
