use Rattle.std.proofs.Common.{◌≤◌, ◌-◌, length}
use Rattle.clnp_segment.proofs.Pieces.{GoesOn}
use Rattle.clnp_segment.proofs.cutting.pieces.Given as goal

abbrev pub invariant-loop-at : goal.invariant-loop-at
invariant-loop-at l = (l.at ≤ length l.pdu.body) × GoesOn l.room l.header l.pdu l.part l.at l.pieces.items

abbrev pub decreases-loop-at : goal.decreases-loop-at
decreases-loop-at l = length l.pdu.body - l.at
