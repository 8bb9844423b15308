use Rattle.std.proofs.Common.{take}
use Rattle.esis_tables.proofs.Placing.{IsPlacing}
use Rattle.esis_tables.proofs.room.places_of.Given as goal

abbrev pub invariant-loop-name : goal.invariant-loop-name
invariant-loop-name l = IsPlacing l.fn.rows (take l.name-index l.names) l.heard l.rows l.places.items
