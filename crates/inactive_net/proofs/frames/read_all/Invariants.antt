use Rattle.std.proofs.Common.{length}
use Rattle.inactive_net.proofs.Passed.{Reading}
use Rattle.inactive_net.proofs.frames.read_all.Given as goal

abbrev pub invariant-loop-up : goal.invariant-loop-up
invariant-loop-up g l = Reading g.C.Carrier.link g.C.Carrier.steps l.rows l.initial.link l.initial.waiting.items l.link l.waiting.items

abbrev pub decreases-loop-up : goal.decreases-loop-up
decreases-loop-up g l = length (g.C.Carrier.link l.link).waiting
