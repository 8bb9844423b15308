use Rattle.std.proofs.Common.{◌≡◌}
use Rattle.esis_tables.specs.steps.Deadlines.{IsListed}
use Rattle.esis_tables.proofs.address_table.list_new.Given as goal

abbrev pub invariant-loop-place : goal.invariant-loop-place
invariant-loop-place l = IsListed l.rows.items l.place l.fn.due.ticks l.due.ticks × (l.due.most ≡ l.fn.due.most)
