use Rattle.std.proofs.Common.{length, ◌-◌}
use Rattle.esis_pdu.specs.Lent.{listed}
use Rattle.esis_tables.proofs.Fronts.{IsFront}
use Rattle.esis_tables.proofs.neighbours.names_of.Given as goal

abbrev pub invariant-loop-address : goal.invariant-loop-address
invariant-loop-address l = IsFront (listed l.addresses) l.names.items

abbrev pub decreases-loop-address : goal.decreases-loop-address
decreases-loop-address l = length (listed l.addresses) - length l.names.items
