use Rattle.std.proofs.Common.{◌≡◌, drop}
use Rattle.lan_step.specs.Rows.{sender_of}
use Rattle.lan_bag.proofs.setup.sender_of.Given as goal

abbrev pub invariant-loop-row : goal.invariant-loop-row
invariant-loop-row l = sender_of (drop l.row-index l.rows) l.port ≡ sender_of l.rows l.port
