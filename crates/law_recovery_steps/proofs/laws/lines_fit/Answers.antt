use Rattle.law_recovery_steps.proofs.LinedPairs.{lines_fit}
use Rattle.law_recovery_steps.proofs.laws.lines_fit.Goals as goal

pub returns : goal.returns
returns c = lines_fit c.flowed.ensures.step c.flowed.ensures.partner c.flowed.ensures.later
