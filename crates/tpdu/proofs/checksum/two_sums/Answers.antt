use Rattle.tpdu.proofs.SumLemmas.{summed_start, summed_back}
use Rattle.tpdu.proofs.checksum.two_sums.Goals as goal

pub loop-left-init : goal.loop-left-init
loop-left-init c = summed_start _

pub loop-left-preserved : goal.loop-left-preserved
loop-left-preserved c =
    rw c.reduced-second.ensures
    (rw c.reduced-first.ensures (summed_back _ _ _ _ _ c.loop-left.invariant c.in-len1-up.len_at_least c.from.ensures))
