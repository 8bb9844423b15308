use Rattle.std.proofs.Common.{◌≡◌, drop}
use Rattle.tp4_relay.specs.Kept.{row_for}
use Rattle.tp4_relay.proofs.row.row_for.Given as goal

abbrev pub invariant-loop-row : goal.invariant-loop-row
invariant-loop-row l = row_for l.rows l.heard ≡ row_for (drop l.row-index l.rows) l.heard
