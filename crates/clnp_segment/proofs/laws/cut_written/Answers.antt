use Rattle.std.proofs.Common.{refl}
use Rattle.clnp_segment.proofs.Cuttings.{cut_written}
use Rattle.clnp_segment.proofs.laws.cut_written.Goals as goal

pub returns : goal.returns
returns c = λ pdu room pdus least w short h. cut_written pdu room pdu.segment pdus refl w short least h
