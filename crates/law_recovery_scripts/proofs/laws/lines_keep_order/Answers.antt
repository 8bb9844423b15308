use Rattle.law_recovery_scripts.proofs.Ordered.{line_keeps}
use Rattle.law_recovery_scripts.proofs.laws.lines_keep_order.Goals as goal

pub returns : goal.returns
returns c = line_keeps
