-- What came of a run tells a script, the run of the stage for it, and what is claimed of every run.
use Rattle.std.proofs.Common.{ℕ, ◌+◌, ◌≤◌, List, length, Option}
use Rattle.osi_base.specs.declared.status.Status.{Status}
use Rattle.osi_base.specs.Ends.{IsAtEnd, Put, Took}
use Rattle.line_loop.specs.Limits.{most_octets, most_read}
use Rattle.line_loop.specs.Outcome.{Outcome}
use Rattle.script_journal.specs.declared.event.Event.{Event}
use Rattle.script_lines.specs.declared.line.Line.{Line}
use Rattle.script_bench.specs.Acts.{Acts}
use Rattle.script_bench.specs.Bench.{bench_meaning, first_bench}
use Rattle.script_bench.specs.Claims.{IsLaw}
use Rattle.script_bench.specs.Scripts.{IsTold}
use Rattle.script_bench.specs.Told.{IsFilledRun, IsScriptRun}
use Rattle.script_bench.proofs.Claimed.{shows}
use Rattle.script_bench.proofs.Given.{outcome_run}
use Rattle.script_bench.proofs.Runs.{filled_run, script_run}

module _ {W S K : Type 0} (acts : Acts W) (Claim : List Line → List Event → W → Type 0) (law : IsLaw acts Claim) (left : S → Option (List ℕ)) (held : K → Option (List ℕ))
    (source : S) (sink : K) (now_source : S) (now_sink : K) (status : Status) where
  pub told : (read : List ℕ) × (written : List ℕ) × Took (left source) read (left now_source) × Put (held sink) written (held now_sink)
      × Outcome (bench_meaning acts) (IsAtEnd (left now_source)) (first_bench acts) read written status × (length read ≤ most_octets + most_read)
      → (read : List ℕ) × (written : List ℕ) × Took (left source) read (left now_source) × Put (held sink) written (held now_sink) × IsTold acts Claim (IsAtEnd (left now_source)) read written status
  told h = (
    h.0,
    h.1,
    h.2,
    h.3,
    record {
      outcome = h.4;
      run = outcome_run acts (IsScriptRun acts) (IsFilledRun acts) (script_run acts) (filled_run acts) (IsAtEnd (left now_source)) h.0 h.1 status h.4;
      claim = shows acts Claim law h.0;
      within = h.5;
    },
  )
