use Rattle.std.proofs.Common.{take}
use Rattle.esis_tables.specs.steps.Places.{IsRenewed}
use Rattle.esis_tables.proofs.rows.renew.Given as goal

abbrev pub invariant-loop-place : goal.invariant-loop-place
invariant-loop-place l = IsRenewed l.heard (take l.place-index l.places) l.fn.rows.items l.rows.items
