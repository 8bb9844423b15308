use Rattle.std.proofs.Common.{arith}
use Rattle.inactive_net.proofs.Longest.{at_least}
use Rattle.inactive_net.proofs.rows.longest_of.Goals as goal

pub loop-row-init : goal.loop-row-init
loop-row-init c = (omega arith, grind (arith, at_least c.args.rows.now))
