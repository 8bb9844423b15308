-- How a generated script goes on, line by line: steps of the code that its private clauses name.
use Rattle.std.specs.Prelude.{◌≡◌, ℕ, ◌<◌, ◌≤◌, List, length, Ok}
use Rattle.script_journal.specs.declared.event.Event.{Event}
use Rattle.script_lines.specs.declared.line.Line.{Line}
use Rattle.script_lines.specs.Grammar.{line_read}
use Rattle.script_lines.specs.Known.{Declared}
use Rattle.script_storm.specs.Counted.{counts_of}
use Rattle.script_storm.specs.declared.counts.Counts.{Counts}
use Rattle.script_storm.specs.Line.{line_text}
use Rattle.law_run.specs.Bench.{Bench, most_events}
use Rattle.osi_storm.specs.Storm.{StormFills, StormRuns}

-- the bench and the counts are those after this journal
pub record Stands (bench : Bench) (counts : Counts) (journal : List Event) : Type 0 where
  pub counted : counts ≡ counts_of journal
  pub events : bench.events ≡ length journal
  pub room : length journal ≤ most_events

abbrev pub HasJournal : Bench → Counts → Type 0
HasJournal bench counts = (journal : List Event) × Stands bench counts journal

-- whatever journal there was, these lines ran after it
abbrev pub Goes : List (List Event → List ℕ) → Bench → Counts → Bench → Counts → Type 0
Goes lines bench counts next after =
    (before : List Event) → Stands bench counts before → (journal : List Event) × Stands next after journal × StormRuns bench before lines journal next

-- whatever journal there was, one of these lines fills it
abbrev pub Fills : List (List Event → List ℕ) → Bench → Counts → Type 0
Fills lines bench counts = (before : List Event) → Stands bench counts before → StormFills bench before lines

-- a line is read by these names
pub record IsKnown (names : Declared) (text : List ℕ) : Type 0 where
  pub line : Line
  pub after : Declared
  pub meaning : line_read names text ≡ Ok (record { line = line; names = after })

-- the line of each word is read, and declares nothing
abbrev pub IsReady : Declared → Type 0
IsReady names =
    (word frames ends : ℕ) → frames < 1000000000 → ends < 1000000000
    → (line : Line) × (line_read names (line_text word frames ends) ≡ Ok (record { line = line; names = names }))
