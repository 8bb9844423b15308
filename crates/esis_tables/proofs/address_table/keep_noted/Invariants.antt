use Rattle.std.proofs.Common.{◌≡◌, take}
use Rattle.esis_tables.specs.steps.Deadlines.{IsKept}
use Rattle.esis_tables.proofs.address_table.keep_noted.Given as goal

abbrev pub invariant-loop-place : goal.invariant-loop-place
invariant-loop-place l = IsKept l.rows.items (take l.place-index l.places) l.fn.due.ticks l.due.ticks × (l.due.most ≡ l.fn.due.most)
