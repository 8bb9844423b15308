-- What comes of a script: its transcript, which tells the run of the stage, and what is claimed of every run.
use Rattle.std.specs.Prelude.{ℕ, ◌+◌, ◌≤◌, List, length}
use Rattle.osi_base.specs.declared.status.Status.{Status}
use Rattle.line_loop.specs.Limits.{most_octets, most_read}
use Rattle.line_loop.specs.Outcome.{Outcome}
use Rattle.script_journal.specs.declared.event.Event.{Event}
use Rattle.script_lines.specs.declared.line.Line.{Line}
use Rattle.script_bench.specs.Acts.{Acts}
use Rattle.script_bench.specs.Bench.{bench_meaning, first_bench}
use Rattle.script_bench.specs.Claims.{Shows}
use Rattle.script_bench.specs.Told.{IsFilledRun, IsScriptRun, OutcomeRun}

-- of the octets read, what was written is told as the status says, and tells the run of the stage for the lines of the script; whatever part of the
-- octets was run, the claim holds of its lines, their journal and the state after them; and no more was read than an input may have, and one read more
pub record IsTold {W : Type 0} (acts : Acts W) (Claim : List Line → List Event → W → Type 0) (end : Type 0) (read written : List ℕ) (status : Status) : Type 0 where
  pub outcome : Outcome (bench_meaning acts) end (first_bench acts) read written status
  pub run : OutcomeRun acts (IsScriptRun acts) (IsFilledRun acts) end read written status outcome
  pub claim : Shows acts Claim read
  pub within : length read ≤ most_octets + most_read
