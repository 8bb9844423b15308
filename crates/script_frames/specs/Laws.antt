-- What holds of every capture of a script.
use Rattle.std.specs.Prelude.{ℕ, List}
use Rattle.capture_write.specs.Written.{SentFrame}
use Rattle.line_loop.specs.Course.{Runs, IsTooMuch, IsTooMuchAtEnd}
use Rattle.octet_loop.specs.ByStatus as by_status
use Rattle.script_journal.specs.declared.event.Event.{Event}
use Rattle.law_run.specs.Bench.{Bench, bench_meaning, first_bench}
use Rattle.script_frames.specs.Frames.{frames_meaning, AsksCapture, IsCaptureOf, IsFramesOf}

-- the frames of lines are those of their journal, and what is written of them is a capture
abbrev pub MakesCaptures : Type 0
MakesCaptures = (texts : List (List ℕ)) (frames : List SentFrame) (last : Bench) → Runs frames_meaning first_bench texts frames last → IsFramesOf texts frames last

-- where octets pass a limit, or a line of theirs fills the journal, the frames are those of the events that stand in the journal then
pub record CapturesTooMuch : Type 0 where
  pub here : (read : List ℕ) (frames : List SentFrame) (last : Bench) → IsTooMuch frames_meaning first_bench read frames last
      → (journal : List Event) × IsTooMuch bench_meaning first_bench read journal last × IsCaptureOf journal frames last
  pub at_end : (read : List ℕ) (frames : List SentFrame) (last : Bench) → IsTooMuchAtEnd frames_meaning first_bench read frames last
      → (journal : List Event) × IsTooMuchAtEnd bench_meaning first_bench read journal last × IsCaptureOf journal frames last

-- octets ask for at most one status and one capture
abbrev pub AsksOneCapture : Type 0
AsksOneCapture = by_status.AsksOne AsksCapture
