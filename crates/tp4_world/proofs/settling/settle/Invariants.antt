use Rattle.std.proofs.Common.{◌≡◌, []}
use Rattle.tp4_number.specs.Number.{wire}
use Rattle.tp4_world.specs.steps.Parts.{AreBehind, AreLaterAll, world_of}
use Rattle.tp4_world.proofs.Going.{Going}
use Rattle.tp4_world.proofs.Settled.{OfSettling}
use Rattle.tp4_world.proofs.settling.settle.Given as goal

abbrev pub invariant-loop-count : goal.invariant-loop-count
invariant-loop-count g l =
    Going (OfSettling g.C.Carrier.link g.C.Carrier.steps wire) (0, world_of l.initial.carrier l.initial.transport.entities.items l.initial.transport.ends) [] l.initial.events.items
    (l.count, world_of l.carrier l.transport.entities.items l.transport.ends) l.events.items []
    × ((g.C.Carrier.link l.carrier).clock ≡ l.now)
    × AreBehind l.now l.transport.entities.items
    × AreLaterAll l.now l.transport.entities.items
