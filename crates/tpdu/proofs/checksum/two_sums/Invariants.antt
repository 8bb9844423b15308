use Rattle.std.proofs.Common.{length}
use Rattle.tpdu.proofs.SumLemmas.{Summed}
use Rattle.tpdu.proofs.checksum.two_sums.Given as goal

abbrev pub invariant-loop-left : goal.invariant-loop-left
invariant-loop-left l = Summed l.octets l.left l.sums.first l.sums.second

abbrev pub decreases-loop-left : goal.decreases-loop-left
decreases-loop-left l = length l.left
