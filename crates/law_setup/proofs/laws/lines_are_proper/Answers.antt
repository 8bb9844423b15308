use Rattle.law_setup.proofs.Proper.{script_proper}
use Rattle.law_setup.proofs.laws.lines_are_proper.Goals as goal

pub returns : goal.returns
returns c = script_proper
