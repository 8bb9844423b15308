use Rattle.law_setup.proofs.Kept.{line_runs}
use Rattle.law_setup.proofs.laws.lines_run.Goals as goal

pub returns : goal.returns
returns c = line_runs
