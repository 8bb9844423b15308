use Rattle.std.proofs.Common.{take}
use Rattle.lan_bag.proofs.Openings.{IsLeastAmong}
use Rattle.lan_bag.proofs.next_delivery.first_system_on.Given as goal

abbrev pub invariant-loop-row : goal.invariant-loop-row
invariant-loop-row l = IsLeastAmong l.clock l.setup.lans l.setup.rows l.sent (take l.row-index l.row-items) l.least
