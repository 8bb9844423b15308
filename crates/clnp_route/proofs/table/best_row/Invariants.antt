use Rattle.std.proofs.Common.{take, option_copied}
use Rattle.clnp_route.specs.steps.Best.{IsBest}
use Rattle.clnp_route.proofs.table.best_row.Given as goal

abbrev pub invariant-loop-row : goal.invariant-loop-row
invariant-loop-row l = IsBest (take l.row-index l.rows) l.address (option_copied l.best)
