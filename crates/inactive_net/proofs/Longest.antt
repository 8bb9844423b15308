-- The greatest bound of all is that of those looked at and of the others.
use Rattle.std.proofs.Common.{◌≤◌, List, [], ◌∷◌, arith}
use Rattle.inactive_step.specs.declared.row.InactiveRow.{InactiveRow}
use Rattle.inactive_step.specs.Rows.{longest}

pub at_least : (rows : List InactiveRow) → 1 ≤ longest rows
at_least [] = omega arith
at_least (row ∷ rows) = grind (arith, at_least rows)
