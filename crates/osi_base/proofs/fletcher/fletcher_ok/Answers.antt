use Rattle.osi_base.proofs.FletcherSealed.{sealed_by_second, unsealed_by_first}
use Rattle.osi_base.proofs.fletcher.fletcher_ok.Goals as goal

pub returns-then-sums-eq0 : goal.returns-then-sums-eq0
returns-then-sums-eq0 c =
    sealed_by_second _ _ _ c.sums_of-sums.ensures.first c.sums_of-sums.ensures.second c.if-sums-eq0.true

pub returns-else-sums-eq0 : goal.returns-else-sums-eq0
returns-else-sums-eq0 c = unsealed_by_first _ _ c.sums_of-sums.ensures.first c.if-sums-eq0.false
