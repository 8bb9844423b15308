-- The machine of scripts, over the network: what a line of a script does to the names declared, to the network and to the journal.
use Rattle.std.specs.Prelude.{ℕ, List}
use Rattle.script_journal.specs.declared.event.Event.{Event}
use Rattle.script_lines.specs.declared.cause.LineFault.{LineFault}
use Rattle.line_loop.specs.Meaning.{Meaning}
use Rattle.script_bench.specs.Bench.{Bench as BenchOf, FillsJournal as FillsJournalOf, RefusesLine as RefusesLineOf, RunsText as RunsTextOf, bench_meaning as meaning_of, first_bench as first_of}
pub use Rattle.script_bench.specs.Bench.{most_events}
use Rattle.law_run.specs.World.{world_acts}
use Rattle.law_run.specs.World.{World}

-- the names declared, the network, how many lines were run, and how many events there were
abbrev pub Bench : Type 0
Bench = BenchOf World

abbrev pub first_bench : Bench
first_bench = first_of world_acts

-- a line of a script is read, declares its names, and takes its step, and the journal has room for its events
abbrev pub RunsText : Bench → List ℕ → List Event → Bench → Type 0
RunsText = RunsTextOf world_acts

-- a line is refused by its first fault
abbrev pub RefusesLine : Bench → List ℕ → LineFault → Type 0
RefusesLine = RefusesLineOf world_acts

-- the journal has no room for all events of a line: those before the first without room are told
abbrev pub FillsJournal : Bench → List ℕ → List Event → Bench → Type 0
FillsJournal = FillsJournalOf world_acts

abbrev pub bench_meaning : Meaning Bench Event LineFault
bench_meaning = meaning_of world_acts
