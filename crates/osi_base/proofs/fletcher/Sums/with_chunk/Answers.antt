use Rattle.std.proofs.Common.{arith}
use Rattle.osi_base.proofs.FletcherSums.{sum_more, running_sum_more}
use Rattle.osi_base.proofs.fletcher.Sums.with_chunk.Goals as goal

pub loop-octet-preserved : goal.loop-octet-preserved
loop-octet-preserved c = record {
  first_is = omega (arith, sum_more c.args.chunk.now c.loop-octet.octet-index (omega arith));
  second_is = omega (arith, running_sum_more c.args.chunk.now c.loop-octet.octet-index (omega arith));
  first_fits = omega (arith, c.type_inv.chunk c.loop-octet.octet-index);
  second_fits = omega (arith, c.type_inv.chunk c.loop-octet.octet-index);
}
