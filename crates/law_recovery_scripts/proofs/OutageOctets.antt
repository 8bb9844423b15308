-- Whatever front of the octets was run whole, its lines are a script that was read; so where they ran as a script with an outage does, a short one ends no connection.
use Rattle.std.proofs.Common.{ℕ, List, ◌++◌}
use Rattle.line_loop.specs.Course.{Runs}
use Rattle.line_loop.specs.Lines.{last_line, open_line}
use Rattle.script_journal.specs.declared.event.Event.{Event}
use Rattle.script_bench.proofs.Runs.{ran}
use Rattle.script_bench.specs.Claims.{AllLines, ToLimit, ToLimitAtEnd, WholeLines}
use Rattle.tp4_conn.specs.declared.timers.Timers.{Timers}
use Rattle.law_run.specs.Bench.{Bench, bench_meaning, first_bench}
use Rattle.law_run.specs.Outage.{KeepsThrough, RunsThroughOutage}
use Rattle.law_run.specs.Transcript.{IsRun, RanWhole, lines_handled, lines_run, texts_in}
use Rattle.law_run.specs.World.{TransportNet, world_acts}
use Rattle.law_recovery_scripts.specs.Laws.{OctetsKept, ScriptsKept}

module _ (law : ScriptsKept) where
  texts_kept : (texts : List (List ℕ)) (journal : List Event) (last : Bench) (read : Runs bench_meaning first_bench texts journal last) (titles : List (List ℕ)) (timers : Timers)
      (early lost late : List Event) (at_s at_t0 ends : TransportNet) (runs : RunsThroughOutage (lines_run first_bench texts journal last read) titles timers early lost late at_s at_t0 ends)
      → KeepsThrough timers runs.parts.front early lost late at_s at_t0 ends
  texts_kept texts journal last read titles timers early lost late at_s at_t0 ends runs =
      law texts (lines_run first_bench texts journal last read) last.names titles timers early lost late at_s at_t0 ends (ran world_acts first_bench texts journal last read).says runs

  pub octets_kept : OctetsKept
  octets_kept octets = λ front journal last begins run whole. by front journal last run whole
    where
      by : (front : List ℕ) (journal : List Event) (last : Bench) (run : IsRun front journal last) → RanWhole front journal last run → (titles : List (List ℕ)) (timers : Timers)
          (early lost late : List Event) (at_s at_t0 ends : TransportNet) (runs : RunsThroughOutage (lines_handled front journal last run) titles timers early lost late at_s at_t0 ends)
          → KeepsThrough timers runs.parts.front early lost late at_s at_t0 ends
      by front journal last (WholeLines read) whole = texts_kept (texts_in front) journal last read.runs
      by front journal last (AllLines all) whole = texts_kept (texts_in front ++ last_line (open_line front)) journal last all.runs
      by front journal last (ToLimit past) whole = absurd whole
      by front journal last (ToLimitAtEnd past) whole = absurd whole
