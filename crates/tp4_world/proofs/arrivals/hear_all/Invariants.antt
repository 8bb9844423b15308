use Rattle.std.proofs.Common.{◌≡◌, length}
use Rattle.tp4_number.specs.Number.{wire}
use Rattle.tp4_world.specs.steps.Parts.{AreBehind, AreLaterAll, HearsEach, world_of}
use Rattle.tp4_world.proofs.Going.{Going}
use Rattle.tp4_world.proofs.arrivals.hear_all.Given as goal

abbrev pub invariant-loop-arrival : goal.invariant-loop-arrival
invariant-loop-arrival g l =
    Going (HearsEach g.C.Carrier.link g.C.Carrier.steps wire) (world_of l.initial.carrier l.initial.transport.entities.items l.initial.transport.ends) l.initial.transport.units.items l.initial.events.items
    (world_of l.carrier l.transport.entities.items l.transport.ends) l.events.items l.transport.units.items
    × ((g.C.Carrier.link l.carrier).clock ≡ l.now)
    × AreBehind l.now l.transport.entities.items
    × AreLaterAll l.now l.transport.entities.items

abbrev pub decreases-loop-arrival : goal.decreases-loop-arrival
decreases-loop-arrival g l = length l.transport.units.items
