use Rattle.std.proofs.Common.{◌≡◌, ◌++◌, sym}
use Rattle.std.proofs.lemmas.List.{take-append-drop}
use Rattle.osi_base.proofs.FletcherRest.{part_more}
use Rattle.osi_base.proofs.fletcher.sums_of.Goals as goal

pub loop-rest-preserved : goal.loop-rest-preserved
loop-rest-preserved c =
    let split : c.loop-rest.rest.now ≡ c.split_at.result.0.now ++ c.split_at.result.1.now =
    rw (c.split_at.ensures.front, c.split_at.ensures.back) (sym (take-append-drop 65536 c.loop-rest.rest.now)) in
    part_more _ _ _ _ _ _ _ _ c.loop-rest.invariant split c.with_chunk-sums.ensures.first c.with_chunk-sums.ensures.second
