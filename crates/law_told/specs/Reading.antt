-- What a reader of a transcript may conclude from its text with the names of the script, whatever the script set up and ran.
use Rattle.std.specs.Prelude.{◌≡◌, ℕ, List}
use Rattle.script_journal.specs.Injective.{EachTold}
use Rattle.script_journal.specs.Told.{journal_text}
use Rattle.script_journal.specs.declared.event.Event.{Event}
use Rattle.script_lines.specs.Tags.{HaveNames, tags_of}
use Rattle.script_lines.specs.declared.line.Line.{Line}
use Rattle.script_bench.specs.Acts.{Acts}
use Rattle.script_bench.specs.Bench.{Bench}
use Rattle.script_bench.specs.Claims.{IsRun, Shows, lines_handled}

-- these events are read from the text of the journal by its names: each is told by its line, and together they have that text
pub record IsReading {W : Type 0} (journal read : List Event) (last : Bench W) : Type 0 where
  pub told : EachTold (tags_of last.names) read
  pub text : journal_text (tags_of last.names) read ≡ journal_text (tags_of last.names) journal

module _ {W : Type 0} (acts : Acts W) where
  -- however far octets were run: the names declared are names, no two alike, and with them each event is told by its line
  abbrev pub TellsItsEvents : Type 0
  TellsItsEvents = (octets : List ℕ) (journal : List Event) (last : Bench W) → IsRun acts octets journal last → HaveNames last.names × EachTold (tags_of last.names) journal

  -- so events that can be read from its text are its events
  abbrev pub IsReadBack : Type 0
  IsReadBack = (octets : List ℕ) (journal read : List Event) (last : Bench W) → IsRun acts octets journal last → IsReading journal read last → read ≡ journal

  -- and two runs with the same names and the same text have the same events
  abbrev pub HasOneReading : Type 0
  HasOneReading = (octets others : List ℕ) (journal other : List Event) (last end : Bench W) → IsRun acts octets journal last → IsRun acts others other end → tags_of last.names ≡ tags_of end.names
      → journal_text (tags_of last.names) journal ≡ journal_text (tags_of end.names) other → journal ≡ other

  -- what is claimed of whatever front of the octets was run, of the lines that were handled, their events and the state after them, holds of the events that are read
  abbrev pub ReadsClaim : (List Line → List Event → W → Type 0) → Type 0
  ReadsClaim Claim = (octets : List ℕ) (journal read : List Event) (last : Bench W) (run : IsRun acts octets journal last) → Shows acts Claim octets → IsReading journal read last
      → Claim (lines_handled acts octets journal last run) read last.world

-- all of these, with what is claimed of the runs of these scripts
pub record IsLegible {W : Type 0} (acts : Acts W) (Claim : List Line → List Event → W → Type 0) : Type 0 where
  pub tells : TellsItsEvents acts
  pub reads : IsReadBack acts
  pub one : HasOneReading acts
  pub claims : ReadsClaim acts Claim
