-- Whatever front of the octets was run whole, its lines are a script and the network ran them; so where they are calm, the network serves its users.
use Rattle.std.proofs.Common.{◌≡◌, ℕ, List, ◌++◌, subst}
use Rattle.line_loop.specs.Course.{Runs}
use Rattle.line_loop.specs.Lines.{open_line, last_line}
use Rattle.script_journal.specs.declared.event.Event.{Event}
use Rattle.law_tp4_pair.specs.CalmScript.{IsCalmScript}
use Rattle.law_run.specs.Bench.{Bench, bench_meaning, first_bench}
use Rattle.law_run.specs.Calm.{ServesUsers}
use Rattle.law_run.specs.Laws.{ServesCalmScripts}
use Rattle.law_run.specs.Transcript.{IsRun, RanWhole, ServesWhereCalm, lines_handled, lines_run, texts_in}
use Rattle.law_run.specs.World.{TransportNet, World, WorldRun, running, world_acts}
use Rattle.script_bench.proofs.Runs.{ran}
use Rattle.script_bench.specs.Claims.{AllLines, ToLimit, ToLimitAtEnd, WholeLines}
use Rattle.tp4_conn.specs.declared.timers.Timers.{Timers}

module _ (law : ServesCalmScripts) where
  texts_served : (texts : List (List ℕ)) (journal : List Event) (last : Bench) (runs : Runs bench_meaning first_bench texts journal last) (titles : List (List ℕ)) (timers : Timers) (ends : TransportNet)
      → last.world ≡ running titles timers ends → IsCalmScript (lines_run first_bench texts journal last runs) → ServesUsers last.names journal titles ends
  texts_served texts journal last runs titles timers ends is calm =
      let r = ran world_acts first_bench texts journal last runs in
      law texts (lines_run first_bench texts journal last runs) last.names journal titles ends
      (record { says = r.says; timers = timers; run = subst (λ (w : World). WorldRun (lines_run first_bench texts journal last runs) journal w) is r.runs; calm = calm })

  pub serves_where_calm : (octets : List ℕ) → ServesWhereCalm octets
  serves_where_calm octets = λ front journal last begins run whole titles timers ends is calm. by front journal last run whole titles timers ends is calm
    where
      by : (front : List ℕ) (journal : List Event) (last : Bench) (run : IsRun front journal last) → RanWhole front journal last run → (titles : List (List ℕ)) (timers : Timers) (ends : TransportNet)
          → last.world ≡ running titles timers ends → IsCalmScript (lines_handled front journal last run) → ServesUsers last.names journal titles ends
      by front journal last (WholeLines read) whole titles timers ends is calm = texts_served (texts_in front) journal last read.runs titles timers ends is calm
      by front journal last (AllLines all) whole titles timers ends is calm = texts_served (texts_in front ++ last_line (open_line front)) journal last all.runs titles timers ends is calm
      by front journal last (ToLimit past) whole titles timers ends is calm = absurd whole
      by front journal last (ToLimitAtEnd past) whole titles timers ends is calm = absurd whole
