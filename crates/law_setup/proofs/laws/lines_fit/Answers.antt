use Rattle.law_setup.proofs.Kept.{line_kept}
use Rattle.law_setup.proofs.laws.lines_fit.Goals as goal

pub returns : goal.returns
returns c = line_kept
