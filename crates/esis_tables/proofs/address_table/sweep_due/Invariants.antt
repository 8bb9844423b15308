use Rattle.std.proofs.Common.{◌≡◌, length}
use Rattle.esis_tables.proofs.Keeping.{IsSweeping}
use Rattle.esis_tables.proofs.address_table.sweep_due.Given as goal

abbrev pub invariant-loop-place : goal.invariant-loop-place
invariant-loop-place l = IsSweeping l.now l.fn.rows l.rows l.due.ticks × (l.due.most ≡ l.fn.due.most)

abbrev pub decreases-loop-place : goal.decreases-loop-place
decreases-loop-place l = length l.rows
