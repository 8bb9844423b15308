use Rattle.capture_write.proofs.Records.{writes_capture}
use Rattle.capture_write.proofs.laws.writes_capture.Goals as goal

pub returns : goal.returns
returns c = writes_capture
