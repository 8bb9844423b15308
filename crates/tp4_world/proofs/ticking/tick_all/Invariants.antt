use Rattle.std.proofs.Common.{◌≡◌, ◌<◌, ℕ, Some, drop, slice_get}
use Rattle.tp4_number.specs.Number.{wire}
use Rattle.tp4_world.specs.steps.Parts.{AreBehind, AreFromAll, AreLaterAt, TicksEach, systems_of, world_of}
use Rattle.tp4_world.proofs.Going.{Going}
use Rattle.tp4_world.proofs.ticking.tick_all.Given as goal

abbrev pub invariant-loop-place : goal.invariant-loop-place
invariant-loop-place g l =
    Going (TicksEach g.C.Carrier.link g.C.Carrier.steps wire) (world_of l.initial.carrier l.initial.transport.entities.items l.initial.transport.ends) (systems_of l.initial.transport.entities.items)
    l.initial.events.items (world_of l.carrier l.transport.entities.items l.transport.ends) l.events.items (drop l.place (systems_of l.initial.transport.entities.items))
    × ((g.C.Carrier.link l.carrier).clock ≡ l.now)
    × AreBehind l.now l.transport.entities.items
    × (systems_of l.transport.entities.items ≡ systems_of l.initial.transport.entities.items)
    × AreFromAll l.now l.transport.entities.items
    × ((k system : ℕ) → k < l.place → slice_get (systems_of l.initial.transport.entities.items) k ≡ Some system → AreLaterAt l.now l.transport.entities.items system)
