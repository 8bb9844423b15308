use Rattle.std.proofs.Common.{length}
use Rattle.clnp_net.proofs.Passing.{Passing}
use Rattle.clnp_net.proofs.frames.pass_notes.Given as goal

abbrev pub invariant-loop-up : goal.invariant-loop-up
invariant-loop-up g l = Passing g.C.Carrier.link g.C.Carrier.steps l.initial.link l.initial.waiting.items l.link l.waiting.items

abbrev pub decreases-loop-up : goal.decreases-loop-up
decreases-loop-up g l = length (g.C.Carrier.link l.link).waiting
