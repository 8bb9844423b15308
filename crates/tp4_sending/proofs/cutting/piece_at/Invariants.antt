use Rattle.std.proofs.Common.{◌≡◌, drop}
use Rattle.tp4_sending.specs.Pieces.{cut_at}
use Rattle.tp4_sending.proofs.cutting.piece_at.Given as goal

abbrev pub invariant-loop-at : goal.invariant-loop-at
invariant-loop-at l = cut_at l.size (drop l.at l.units.items) l.left ≡ cut_at l.size l.units.items l.number
