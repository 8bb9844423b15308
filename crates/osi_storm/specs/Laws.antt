-- What holds of every generated script.
use Rattle.std.specs.Prelude.{◌≡◌, ℕ, List, []}
use Rattle.osi_base.specs.declared.status.Status.{Status}
use Rattle.script_journal.specs.declared.event.Event.{Event}
use Rattle.script_lines.specs.Injecting.{HasNoInject}
use Rattle.script_storm.specs.declared.request.Storm.{Storm}
use Rattle.law_run.specs.Bench.{Bench, first_bench}
use Rattle.law_run.specs.Transcript.{IsScriptRun}
use Rattle.osi_storm.specs.Storm.{storm_lines, StormRuns, AsksSummary}

-- the lines of a generated script are a script in which nothing is injected, and its journal is that of the run of the network for them
abbrev pub RunsGenerated : Type 0
RunsGenerated = (storm : Storm) (journal : List Event) (last : Bench) → StormRuns first_bench [] (storm_lines storm) journal last
    → (texts : List (List ℕ)) × (run : IsScriptRun texts journal last) × HasNoInject run.script

-- a generated script asks for at most one status and one text
abbrev pub AsksOneSummary : Type 0
AsksOneSummary = (storm : Storm) (text other : List ℕ) (status next : Status) → AsksSummary storm text status → AsksSummary storm other next → (status ≡ next) × (text ≡ other)
