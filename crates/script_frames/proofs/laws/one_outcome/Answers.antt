use Rattle.line_loop.proofs.Exclusion.{one_course}
use Rattle.script_frames.specs.Frames.{frames_meaning}
use Rattle.script_frames.specs.steps.FrameLaws.{frames_laws}
use Rattle.script_frames.proofs.Capturing.{one_capture}
use Rattle.script_frames.proofs.laws.one_outcome.Goals as goal

pub returns-clause-course : goal.returns-clause-course
returns-clause-course c = one_course frames_meaning frames_laws

pub returns-clause-asks : goal.returns-clause-asks
returns-clause-asks c = one_capture
