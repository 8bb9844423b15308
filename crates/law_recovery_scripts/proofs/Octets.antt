-- Whatever front of the octets was run whole, its lines are a script that was read; so where they ran as such a script does, its ends recover.
use Rattle.std.proofs.Common.{ℕ, List, ◌++◌}
use Rattle.line_loop.specs.Course.{Runs}
use Rattle.line_loop.specs.Lines.{open_line, last_line}
use Rattle.script_journal.specs.declared.event.Event.{Event}
use Rattle.tp4_conn.specs.declared.timers.Timers.{Timers}
use Rattle.script_bench.proofs.Runs.{ran}
use Rattle.script_bench.specs.Claims.{AllLines, ToLimit, ToLimitAtEnd, WholeLines}
use Rattle.law_run.specs.Bench.{Bench, bench_meaning, first_bench}
use Rattle.law_run.specs.Transcript.{IsRun, RanWhole, lines_handled, lines_run, texts_in}
use Rattle.law_run.specs.World.{TransportNet, world_acts}
use Rattle.law_recovery_scripts.specs.Laws.{OctetsRecover, ScriptsRecover}
use Rattle.law_run.specs.Recovery.{RunsRecovering}
use Rattle.law_run.specs.Serving.{ServesAgain}

module _ (law : ScriptsRecover) where
  texts_recover : (texts : List (List ℕ)) (journal : List Event) (last : Bench) (runs : Runs bench_meaning first_bench texts journal last) (titles : List (List ℕ)) (timers : Timers) (early late : List Event)
      (at_t0 ends : TransportNet) → RunsRecovering (lines_run first_bench texts journal last runs) titles timers early late at_t0 ends → ServesAgain timers at_t0 ends early late
  texts_recover texts journal last runs titles timers early late at_t0 ends back =
      let r = ran world_acts first_bench texts journal last runs in
      law texts (lines_run first_bench texts journal last runs) last.names titles timers early late at_t0 ends r.says back

  pub recovers_where_kept : OctetsRecover
  recovers_where_kept octets = λ front journal last begins run whole. by front journal last run whole
    where
      by : (front : List ℕ) (journal : List Event) (last : Bench) (run : IsRun front journal last) → RanWhole front journal last run → (titles : List (List ℕ)) (timers : Timers) (early late : List Event)
          (at_t0 ends : TransportNet) → RunsRecovering (lines_handled front journal last run) titles timers early late at_t0 ends → ServesAgain timers at_t0 ends early late
      by front journal last (WholeLines read) whole = texts_recover (texts_in front) journal last read.runs
      by front journal last (AllLines all) whole = texts_recover (texts_in front ++ last_line (open_line front)) journal last all.runs
      by front journal last (ToLimit past) whole = absurd whole
      by front journal last (ToLimitAtEnd past) whole = absurd whole
