use Rattle.std.proofs.Common.{true, false, ap, option_copied}
use Rattle.clnp_route.proofs.Longest.{best_at}
use Rattle.clnp_route.proofs.table.best_row.Goals as goal
use Rattle.clnp_route.proofs.table.best_row.Goals.{then-is_better, else-is_better}

pub loop-row-preserved : goal.loop-row-preserved
loop-row-preserved c = elim c.if-is_better.branch [
  | then-is_better w ↦ best_at c.args.address.now c.args.rows.now c.loop-row.row-index (option_copied c.loop-row.best) (option_copied c.if-is_better.best) c.row-item.result true
      c.loop-row-test.true c.row-item.is (cc) (ap (λ best. option_copied best) w.best-is) c.loop-row.invariant
  | else-is_better w ↦ best_at c.args.address.now c.args.rows.now c.loop-row.row-index (option_copied c.loop-row.best) (option_copied c.if-is_better.best) c.row-item.result false
      c.loop-row-test.true c.row-item.is (cc) (ap (λ best. option_copied best) w.best-is) c.loop-row.invariant
]
