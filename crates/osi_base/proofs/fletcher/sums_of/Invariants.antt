use Rattle.std.proofs.Common.{length}
use Rattle.osi_base.proofs.FletcherRest.{IsPartOf}
use Rattle.osi_base.proofs.fletcher.sums_of.Given as goal

abbrev pub invariant-loop-rest : goal.invariant-loop-rest
invariant-loop-rest l = IsPartOf l.sums.0 l.sums.1.0 l.rest l.octets

abbrev pub decreases-loop-rest : goal.decreases-loop-rest
decreases-loop-rest l = length l.rest
