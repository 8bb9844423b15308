use Rattle.std.proofs.Common.{arith, rules}
use Rattle.osi_base.proofs.FletcherPair.{seals_written}
use Rattle.osi_base.proofs.fletcher.fletcher_seal.Goals as goal

pub returns : goal.returns
returns c =
    seals_written _ _ _ _ _ _ _ _ _
    c.requires.room (omega arith)
    c.write_pair.ensures c.write_pair-2.ensures
    c.sums_of-sums.ensures.first c.sums_of-sums.ensures.second
    c.used_octet-first.ensures.same c.used_octet-second.ensures.same
    (c.used_octet-first.ensures.used, search rules) (c.used_octet-second.ensures.used, search rules)
