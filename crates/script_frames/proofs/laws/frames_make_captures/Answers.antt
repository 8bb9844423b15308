use Rattle.script_frames.proofs.Captured.{frames_of}
use Rattle.script_frames.proofs.laws.frames_make_captures.Goals as goal

pub returns : goal.returns
returns c = frames_of
