use Rattle.script_frames.proofs.Captured.{captures_too_much}
use Rattle.script_frames.proofs.laws.full_journals_make_captures.Goals as goal

pub returns : goal.returns
returns c = captures_too_much
