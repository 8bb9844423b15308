-- An entity as the code keeps it: its ends, with the numbers that their receiving halves expect as they stand on the wire.
use Rattle.std.specs.Prelude.{option_map, map}
use Rattle.tp4_conn.specs.Wire.{end_on_wire}
use Rattle.tp4_entity.specs.Entity.{Entity, Acted}

abbrev pub entity_on_wire : Entity → Entity
entity_on_wire e = record e { ends = map (option_map end_on_wire) e.ends }

abbrev pub acted_on_wire : Acted → Acted
acted_on_wire a = record a { entity = entity_on_wire a.entity }
