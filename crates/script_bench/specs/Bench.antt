-- The machine of scripts: what a line does to the names declared, to the stage and to the journal.
use Rattle.std.specs.Prelude.{◌≡◌, ℕ, ◌+◌, ◌-◌, ◌<◌, ◌≤◌, false, List, [], length, take, Ok, Err}
use Rattle.script_lines.specs.declared.cause.LineFault.{LineFault}
use Rattle.script_lines.specs.declared.cause.LineCause.TheVariants as causes
use Rattle.script_lines.specs.declared.line.Line.{Line}
use Rattle.script_lines.specs.Grammar.{line_read, fault}
use Rattle.script_lines.specs.Known.{Declared, nothing_declared}
use Rattle.script_lines.specs.Tags.{tags_of}
use Rattle.script_journal.specs.declared.event.Event.{Event}
use Rattle.script_journal.specs.Told.{journal_text}
use Rattle.line_loop.specs.Meaning.{Meaning}
use Rattle.script_bench.specs.Acts.{Acts}
use Rattle.script_bench.specs.Text.{done_lines, refused_line, toomuch_line}

-- the most events of a journal
abbrev pub most_events : ℕ
most_events = 4194304

-- the names declared, the stage, how many lines were run, and how many events there were
pub record Bench (W : Type 0) : Type 0 where
  pub names : Declared
  pub world : W
  pub lines : ℕ
  pub events : ℕ

module _ {W : Type 0} (acts : Acts W) where
  abbrev pub first_bench : Bench W
  first_bench = record { names = nothing_declared acts.dialect; world = acts.first; lines = 0; events = 0 }

  -- a line of a script is read, declares its names, and takes its step, and the journal has room for its events
  pub record RunsText (old : Bench W) (octets : List ℕ) (made : List Event) (new : Bench W) : Type 0 where
    pub line : Line
    pub meaning : line_read old.names octets ≡ Ok (record { line = line; names = new.names })
    pub steps : acts.step old.world line made new.world
    pub lines : new.lines ≡ old.lines + 1
    pub events : new.events ≡ old.events + length made
    pub room : new.events ≤ most_events

  -- a line is refused by its first fault
  abbrev pub RefusesLine : Bench W → List ℕ → LineFault → Type 0
  RefusesLine bench octets found = line_read bench.names octets ≡ Err found

  -- the journal has no room for all events of a line: those before the first without room are told
  pub record FillsJournal (old : Bench W) (octets : List ℕ) (made : List Event) (new : Bench W) : Type 0 where
    pub line : Line
    pub whole : List Event
    pub meaning : line_read old.names octets ≡ Ok (record { line = line; names = new.names })
    pub steps : acts.step old.world line whole new.world
    pub lines : new.lines ≡ old.lines + 1
    pub over : most_events < old.events + length whole
    pub made_is : made ≡ take (most_events - old.events) whole
    pub events : new.events ≡ most_events

  -- events come only after the set-up, when all names are declared
  abbrev pub TellsEvents : Bench W → List Event → Type 0
  TellsEvents bench journal = bench.names.started ≡ false → journal ≡ []

  abbrev pub bench_meaning : Meaning (Bench W) Event LineFault
  bench_meaning = record {
    step = RunsText;
    refuses = RefusesLine;
    fills = FillsJournal;
    too_long = λ bench. fault causes.Long 40001;
    text = λ bench journal. journal_text (tags_of bench.names) journal;
    tells = TellsEvents;
    lines = λ bench. bench.lines;
    done = λ bench. done_lines (acts.strays bench.world);
    refused = λ bench line found. refused_line line found;
    too_much = λ bench. toomuch_line;
  }
