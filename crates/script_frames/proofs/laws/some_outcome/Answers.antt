use Rattle.script_frames.proofs.Short.{some_capture}
use Rattle.script_frames.proofs.laws.some_outcome.Goals as goal

pub returns : goal.returns
returns c = some_capture
