use Rattle.std.proofs.Common.{◌≡◌, ◌≤◌, drop, max}
use Rattle.inactive_step.specs.Rows.{longest}
use Rattle.inactive_net.proofs.rows.longest_of.Given as goal

abbrev pub invariant-loop-row : goal.invariant-loop-row
invariant-loop-row l = (1 ≤ l.greatest) × (max l.greatest (longest (drop l.row-index l.rows)) ≡ longest l.rows)
