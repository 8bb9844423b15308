use Rattle.capture_decode.proofs.Exclusion.{one_capture}
use Rattle.capture_decode.proofs.laws.one_capture.Goals as goal

pub returns : goal.returns
returns c = one_capture
