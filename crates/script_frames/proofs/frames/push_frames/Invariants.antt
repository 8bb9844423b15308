use Rattle.std.proofs.Common.{◌≤◌, max}
use Rattle.script_frames.proofs.Framing.{AreWritten}
use Rattle.script_frames.proofs.frames.push_frames.Given as goal

-- the frames from the first new one up to this place were written
abbrev pub invariant-loop-place : goal.invariant-loop-place
invariant-loop-place l = (l.before ≤ l.place) × (l.place ≤ max l.before l.end) × AreWritten l.bag.frames l.before l.place l.fn.out.items l.out.items
