use Rattle.std.proofs.Common.{◌≡◌, ℕ, [], Some}
use Rattle.std.specs.List.{position}
use Rattle.tp4_number.specs.Number.{wire}
use Rattle.tp4_world.specs.World.{is_of}
use Rattle.tp4_world.specs.steps.Parts.{AreBehind, AreFromAll, AreLaterAt, dues_at, systems_of, world_of}
use Rattle.tp4_world.proofs.Going.{Going}
use Rattle.tp4_world.proofs.Ticked.{OfEntity}
use Rattle.tp4_world.proofs.ticking.tick_system.Given as goal

abbrev pub invariant-loop : goal.invariant-loop
invariant-loop g l =
    Going (OfEntity g.C.Carrier.link g.C.Carrier.steps wire l.system) (world_of l.initial.carrier l.initial.transport.entities.items l.initial.transport.ends) [] l.initial.events.items
    (world_of l.carrier l.transport.entities.items l.transport.ends) l.events.items []
    × ((g.C.Carrier.link l.carrier).clock ≡ l.now)
    × AreBehind l.now l.transport.entities.items
    × (systems_of l.transport.entities.items ≡ systems_of l.initial.transport.entities.items)
    × AreFromAll l.now l.transport.entities.items
    × (position (is_of l.system) l.transport.entities.items ≡ Some l.place)
    × ((other : ℕ) → AreLaterAt l.now l.initial.transport.entities.items other → AreLaterAt l.now l.transport.entities.items other)

abbrev pub decreases-loop : goal.decreases-loop
decreases-loop g l = dues_at l.now l.transport.entities.items l.system
