-- The network as the code keeps it: its ends expect numbers as they stand on the wire.
use Rattle.std.specs.Prelude.{map}
use Rattle.tp4_entity.specs.Wire.{entity_on_wire}
use Rattle.tp4_world.specs.World.{World}
use Rattle.tp4_world.specs.declared.place.Placed.{Placed}

-- a network as the code keeps it: the numbers that its ends expect, as they stand on the wire
abbrev pub placed_on_wire : Placed → Placed
placed_on_wire one = record one { entity = entity_on_wire one.entity }

abbrev pub world_on_wire : {C : Type 0} → World C → World C
world_on_wire world = record world { entities = map placed_on_wire world.entities }
