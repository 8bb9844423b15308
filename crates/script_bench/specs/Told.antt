-- What a transcript tells: the lines whose journal it is are a script, and the stage ran them.
use Rattle.std.specs.Prelude.{◌≡◌, ◌⊎◌, ℕ, ◌<◌, List, [], ◌∷◌, ◌++◌, length, take}
use Rattle.std.proofs.Common.{inl, inr}
use Rattle.osi_base.specs.declared.status.Status.{Status}
use Rattle.osi_base.specs.declared.status.Status.TheVariants.{Done, RefusedLine, RefusedWords, ReadFault, WriteFault, NoMemory, RefusedCapture, TooMuch}
use Rattle.line_loop.specs.Course.{IsOver, IsTooMuch, IsTooMuchAtEnd, IsRefusedAt, IsRefusedAtEnd}
use Rattle.line_loop.specs.Lines.{open_line, without_return, last_line}
use Rattle.line_loop.specs.Outcome.{Asks, Outcome}
use Rattle.script_journal.specs.declared.event.Event.{Event}
use Rattle.script_lines.specs.declared.cause.LineFault.{LineFault}
use Rattle.script_lines.specs.declared.line.Line.{Line}
use Rattle.script_lines.specs.Known.{nothing_declared}
use Rattle.script_lines.specs.Script.{Says}
use Rattle.script_bench.specs.Acts.{Acts, RunsScript}
use Rattle.script_bench.specs.Bench.{Bench, bench_meaning, first_bench, most_events}
use Rattle.script_bench.specs.Claims.{AllLines, IsRun, ToLimit, ToLimitAtEnd, WholeLines, texts_in}

module _ {W : Type 0} (acts : Acts W) where
  -- the texts are the lines of a script, and the stage ran them with this journal up to that state
  pub record IsScriptRun (texts : List (List ℕ)) (journal : List Event) (last : Bench W) : Type 0 where
    pub script : List Line
    pub lines : Says (nothing_declared acts.dialect) texts script last.names
    pub run : RunsScript acts acts.first script journal last.world

  -- the texts are the lines of a script whose journal is longer than a journal may be, and this is its front
  pub record IsFilledRun (texts : List (List ℕ)) (journal : List Event) (last : Bench W) : Type 0 where
    pub whole : List Event
    pub run : IsScriptRun texts whole last
    pub over : most_events < length whole
    pub journal_is : journal ≡ take most_events whole

  -- what is said of lines that ran, and of lines of which the last fills the journal
  module _ (Ran Filled : List (List ℕ) → List Event → Bench W → Type 0) where
    -- it is said of the lines before one that is refused
    abbrev pub RefusedRun : {end : Type 0} (read : List ℕ) (line : ℕ) (said : LineFault) (journal : List Event) (last : Bench W)
        → IsRefusedAt (bench_meaning acts) (first_bench acts) read line said journal last ⊎ (end × IsRefusedAtEnd (bench_meaning acts) (first_bench acts) read line said journal last) → Type 0
    RefusedRun read line said journal last (inl here) = Ran (texts_in here.front) journal last
    RefusedRun read line said journal last (inr at_end) = Ran (texts_in read) journal last

    -- it is said of the lines before a limit; a line that fills the journal is the last of them
    abbrev pub OverRun : (front : List ℕ) (octet : ℕ) (events : List Event) (state last : Bench W) (journal : List Event) → IsOver (bench_meaning acts) state front octet events last → Type 0
    OverRun front octet events state last journal (inl limit) = Ran (texts_in front) journal last
    OverRun front octet events state last journal (inr fills) = Filled (texts_in front ++ without_return (open_line front) ∷ []) journal last

    abbrev pub TooMuchRun : {end : Type 0} (read : List ℕ) (journal : List Event) (last : Bench W)
        → IsTooMuch (bench_meaning acts) (first_bench acts) read journal last ⊎ (end × IsTooMuchAtEnd (bench_meaning acts) (first_bench acts) read journal last) → Type 0
    TooMuchRun read journal last (inl here) = OverRun here.front here.octet here.events here.state last journal here.over
    TooMuchRun read journal last (inr at_end) = Filled (texts_in read ++ open_line read ∷ []) journal last

    -- where octets ask for a transcript: it is said of the lines whose journal it tells
    abbrev pub AskedRun : (end : Type 0) (read text : List ℕ) (status : Status) → Asks (bench_meaning acts) end (first_bench acts) read text status → Type 0
    AskedRun end read text Done asked = Ran (texts_in read ++ last_line (open_line read)) asked.journal asked.last
    AskedRun end read text RefusedLine asked = RefusedRun read asked.line asked.said asked.journal asked.last asked.refused
    AskedRun end read text TooMuch asked = TooMuchRun read asked.journal asked.last asked.passed
    AskedRun end read text ReadFault asked = Ran (texts_in read) asked.journal asked.last
    AskedRun end read text WriteFault asked = ⊥
    AskedRun end read text NoMemory asked = ⊥
    AskedRun end read text RefusedWords asked = ⊥
    AskedRun end read text RefusedCapture asked = ⊥

    -- the same of what was written, which is that transcript or a front of it
    abbrev pub OutcomeRun : (end : Type 0) (read written : List ℕ) (status : Status) → Outcome (bench_meaning acts) end (first_bench acts) read written status → Type 0
    OutcomeRun end read written Done told = AskedRun end read written Done told
    OutcomeRun end read written RefusedLine told = AskedRun end read written RefusedLine told
    OutcomeRun end read written TooMuch told = AskedRun end read written TooMuch told
    OutcomeRun end read written ReadFault told = AskedRun end read written ReadFault told
    OutcomeRun end read written WriteFault told = AskedRun ((told.front ≡ read) × end) told.front told.text told.status told.asked
    OutcomeRun end read written NoMemory told = AskedRun ((told.front ≡ read) × end) told.front told.text told.status told.asked
    OutcomeRun end read written RefusedWords told = ⊥
    OutcomeRun end read written RefusedCapture told = ⊥

    -- it is said of the lines of octets that were run, or of those before a limit
    abbrev pub RanScript : (octets : List ℕ) (journal : List Event) (last : Bench W) → IsRun acts octets journal last → Type 0
    RanScript octets journal last (WholeLines read) = Ran (texts_in octets) journal last
    RanScript octets journal last (AllLines whole) = Ran (texts_in octets ++ last_line (open_line octets)) journal last
    RanScript octets journal last (ToLimit here) = OverRun here.front here.octet here.events here.state last journal here.over
    RanScript octets journal last (ToLimitAtEnd at_end) = Filled (texts_in octets ++ open_line octets ∷ []) journal last
