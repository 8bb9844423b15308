use Rattle.std.proofs.Common.{length}
use Rattle.clnp_net.proofs.Parts.{Handling}
use Rattle.clnp_net.proofs.net.handle.Given as goal

abbrev pub invariant-loop-up : goal.invariant-loop-up
invariant-loop-up g l =
    Handling g.C.Carrier.link g.C.Carrier.steps l.now l.initial.link l.initial.systems l.initial.ups.items l.initial.waiting.items l.link l.systems l.ups.items l.waiting.items

abbrev pub decreases-loop-up : goal.decreases-loop-up
decreases-loop-up g l = length l.ups.items
