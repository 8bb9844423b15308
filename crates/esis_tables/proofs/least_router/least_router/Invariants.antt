use Rattle.std.proofs.Common.{take}
use Rattle.esis_tables.specs.steps.Least.{IsLeastRouter}
use Rattle.esis_tables.proofs.least_router.least_router.Given as goal

abbrev pub invariant-loop-place : goal.invariant-loop-place
invariant-loop-place l = IsLeastRouter (take l.place l.rows.items) l.now l.least
