use Rattle.std.proofs.Common.{length}
use Rattle.tp4_world.proofs.Heard.{TakingUnits}
use Rattle.tp4_world.proofs.arrivals.take_units.Given as goal

abbrev pub invariant-loop-up : goal.invariant-loop-up
invariant-loop-up g l = TakingUnits g.C.Carrier.link g.C.Carrier.steps l.initial.carrier l.initial.events.items l.carrier l.units.items l.events.items

abbrev pub decreases-loop-up : goal.decreases-loop-up
decreases-loop-up g l = length (g.C.Carrier.link l.carrier).waiting
