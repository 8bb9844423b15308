use Rattle.std.proofs.Common.{length}
use Rattle.cltp.proofs.Taking.{Taking}
use Rattle.cltp.proofs.hearing.take_up.Given as goal

abbrev pub invariant-loop-up : goal.invariant-loop-up
invariant-loop-up g l =
    Taking g.C.Carrier.link g.C.Carrier.steps l.systems l.initial.carrier l.initial.events.items l.events.items l.heard.items l.carrier

abbrev pub decreases-loop-up : goal.decreases-loop-up
decreases-loop-up g l = length (g.C.Carrier.link l.carrier).waiting
