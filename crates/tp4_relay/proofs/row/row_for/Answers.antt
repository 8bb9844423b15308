use Rattle.tp4_relay.proofs.Finding.{other_selector, other_system, row_here}
use Rattle.tp4_relay.proofs.row.row_for.Goals as goal
use Rattle.tp4_relay.proofs.row.row_for.Goals.{else-row-heard-via-then-row-heard+else-eq, else-row-heard-via-else-row-heard}

pub returns-then-eq : goal.returns-then-eq
returns-then-eq c = row_here c.args.rows.now c.args.heard.now c.loop-row.row-index c.row-item.result c.loop-row-test.true c.row-item.is c.loop-row.invariant c.eq.result c.if-row-heard.true c.eq.ensures c.if-eq.true

pub loop-row-preserved : goal.loop-row-preserved
loop-row-preserved c = elim c.else-row-heard.branch [
  | else-row-heard-via-then-row-heard+else-eq w ↦ other_selector c.args.rows.now c.args.heard.now c.loop-row.row-index c.row-item.result c.loop-row-test.true c.row-item.is c.loop-row.invariant
      w.eq.result w.if-row-heard.true w.eq.ensures w.if-eq.false
  | else-row-heard-via-else-row-heard w ↦ other_system c.args.rows.now c.args.heard.now c.loop-row.row-index c.row-item.result c.loop-row-test.true c.row-item.is c.loop-row.invariant w.if-row-heard.false
]
