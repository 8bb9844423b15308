use Rattle.std.proofs.Common.{length}
use Rattle.osi_base.proofs.Gatherings.{Gathering}
use Rattle.osi_base.proofs.runs.gather.Given as goal

abbrev pub invariant-loop-up : goal.invariant-loop-up
invariant-loop-up g l = Gathering g.C.Carrier.link g.C.Carrier.steps l.initial.carrier l.ups.items l.carrier

abbrev pub decreases-loop-up : goal.decreases-loop-up
decreases-loop-up g l = length (g.C.Carrier.link l.carrier).waiting
