-- What holds of every run of the network.
use Rattle.std.specs.Prelude.{ℕ, List}
use Rattle.script_journal.specs.declared.event.Event.{Event}
use Rattle.script_lines.specs.declared.line.Line.{Line}
use Rattle.line_loop.specs.Course.{Runs}
use Rattle.script_lines.specs.Known.{Declared}
use Rattle.law_run.specs.Bench.{Bench, first_bench, bench_meaning}
use Rattle.law_run.specs.Calm.{ServesUsers, RunsCalmly}
use Rattle.law_run.specs.World.{TransportNet}
use Rattle.law_run.specs.Transcript.{IsScriptRun}

-- what runs on the bench is a script, line by line, and the run of the network for its lines
abbrev pub RunsScripts : Type 0
RunsScripts = (texts : List (List ℕ)) (journal : List Event) (last : Bench) → Runs bench_meaning first_bench texts journal last → IsScriptRun texts journal last

-- after each calm script the network serves its users
abbrev pub ServesCalmScripts : Type 0
ServesCalmScripts = (texts : List (List ℕ)) (script : List Line) (names : Declared) (journal : List Event) (titles : List (List ℕ)) (last : TransportNet) → RunsCalmly texts script names journal titles last
    → ServesUsers names journal titles last
