use Rattle.capture_decode.proofs.Exclusion.{one_fault}
use Rattle.capture_decode.proofs.laws.one_fault.Goals as goal

pub returns : goal.returns
returns c octets offset place cause other h k = let one = one_fault octets h.0 k.0 offset place cause other h.1 k.1 in (one.1, one.2)
