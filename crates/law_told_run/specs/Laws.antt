-- What a reader of a transcript of `run` may conclude from its text, with the names of the script: the events that he reads are those of the run, and each
-- line that asks something has its own.
use Rattle.std.specs.Prelude.{◌≡◌, ℕ, List, None}
use Rattle.script_journal.specs.declared.event.Event.{Event}
use Rattle.script_lines.specs.declared.line.Line.{Line}
use Rattle.script_lines.specs.Known.{nothing_declared, Declared}
use Rattle.script_lines.specs.Script.{Says}
use Rattle.script_lines.specs.declared.words.Dialect.TheVariants as dialects
use Rattle.law_run.specs.Bench.{Bench}
use Rattle.law_run.specs.World.{frozen_of, strays_of, titles_of, world_acts, WorldRun, World}
use Rattle.script_journal.specs.Lawful.{Lawful}
use Rattle.law_run.specs.Transcript.{IsRun}
use Rattle.script_journal.specs.Showing.{EachTellsRightly}
use Rattle.law_told.specs.Reading.{HasOneReading as HasOneReadingOf, IsReadBack as IsReadBackOf, IsReading, TellsItsEvents as TellsItsEventsOf}
use Rattle.tp4_world.specs.Asked.{AreAsked}

-- however far octets were run: the names declared are names, no two alike, and with them each event is told by its line
abbrev pub TellsItsEvents : Type 0
TellsItsEvents = TellsItsEventsOf world_acts

-- so events that can be read from its text are its events
abbrev pub IsReadBack : Type 0
IsReadBack = IsReadBackOf world_acts

-- and where no strays are told, since no line that was handled is an `inject` line that was taken, what is read is lawful: what users are told is what their
-- partners asked, as `Lawful` and `TellsRightly` say it
abbrev pub ReadsLawfully : Type 0
ReadsLawfully = (octets : List ℕ) (journal read : List Event) (last : Bench) → IsRun octets journal last → IsReading journal read last → strays_of last.world ≡ None
    → Lawful (frozen_of last.world) (titles_of last.world) read × EachTellsRightly (titles_of last.world) read

-- and two runs with the same names and the same text have the same events
abbrev pub HasOneReading : Type 0
HasOneReading = HasOneReadingOf world_acts

-- each `connect`, `data` and `expedite` line of a script has its own event, which says what the line says, or is refused; no other line has such an event
abbrev pub LinesAreAsked : Type 0
LinesAreAsked = (script : List Line) (journal : List Event) (last : World) → WorldRun script journal last → AreAsked (titles_of last) script journal

-- where no strays are told, since no line is an `inject` line that was taken: each unit that an end shows is the next, of its mark, of those that its partner
-- was asked to send before, and a connect indication says what the latest request of that end says
abbrev pub EventsTellRightly : Type 0
EventsTellRightly = (texts : List (List ℕ)) (script : List Line) (names : Declared) (journal : List Event) (last : World) → Says (nothing_declared dialects.Run) texts script names
    → WorldRun script journal last → strays_of last ≡ None → EachTellsRightly (titles_of last) journal
