-- The run of a generated script: each line is made by what the journal of the lines before it counts.
use Rattle.std.specs.Prelude.{◌≡◌, ◌⊎◌, ℕ, List, [], ◌∷◌, ◌++◌, map}
use Rattle.octet_loop.specs.ByStatus as by_status
use Rattle.osi_base.specs.declared.status.Status.{Status}
use Rattle.osi_base.specs.declared.status.Status.TheVariants.{Done, RefusedLine, RefusedWords, ReadFault, WriteFault, NoMemory, RefusedCapture, TooMuch}
use Rattle.script_journal.specs.declared.event.Event.{Event}
use Rattle.script_storm.specs.declared.request.Storm.{Storm}
use Rattle.script_storm.specs.Counted.{counts_of}
use Rattle.script_storm.specs.Line.{set_up_lines, line_text}
use Rattle.script_storm.specs.Summary.{summary_line}
use Rattle.script_storm.specs.Words.{words}
use Rattle.law_run.specs.Bench.{Bench, RunsText, FillsJournal, first_bench}
use Rattle.script_bench.specs.Text.{done_line, toomuch_line}
use Rattle.law_run.specs.World.{frozen_of, life_of, titles_of}
use Rattle.script_journal.specs.Lawful.{Lawful}
use Rattle.script_journal.specs.RawLawful.{RawLawful}

-- the line of a word, by the frames and the ends of the journal before it
abbrev pub line_after : ℕ → List Event → List ℕ
line_after word before = line_text word (counts_of before).frames (counts_of before).ends

-- a line of the set-up, whatever the journal before it
abbrev pub as_it_stands : List ℕ → List Event → List ℕ
as_it_stands line before = line

-- the lines of a generated script, each by the journal before it: those of the set-up, and then one for each word
abbrev pub storm_lines : Storm → List (List Event → List ℕ)
storm_lines storm = map as_it_stands set_up_lines ++ map line_after (words storm.seed storm.count)

-- the lines run one after another; `before` is the journal of those before them, and `journal` of all
abbrev pub StormRuns : Bench → List Event → List (List Event → List ℕ) → List Event → Bench → Type 0
StormRuns first before [] journal last = (journal ≡ before) × (last ≡ first)
StormRuns first before (line ∷ lines) journal last =
    (made : List Event) × (middle : Bench) × RunsText first (line before) made middle × StormRuns middle (before ++ made) lines journal last

-- the lines run one after another up to one that fills the journal
abbrev pub StormFills : Bench → List Event → List (List Event → List ℕ) → Type 0
StormFills first before [] = ⊥
StormFills first before (line ∷ lines) =
    ((made : List Event) × (last : Bench) × FillsJournal first (line before) made last)
    ⊎ ((made : List Event) × (middle : Bench) × RunsText first (line before) made middle × StormFills middle (before ++ made) lines)

-- what a generated script asks for, by how its run ends: the counts of its journal, or that a line fills the journal
abbrev pub AsksSummary : Storm → List ℕ → Status → Type 0
AsksSummary storm text Done = (journal : List Event) × (last : Bench) × StormRuns first_bench [] (storm_lines storm) journal last
    × (text ≡ summary_line storm (counts_of journal) ++ done_line)
AsksSummary storm text TooMuch = StormFills first_bench [] (storm_lines storm) × (text ≡ toomuch_line)
AsksSummary storm text RefusedLine = ⊥
AsksSummary storm text ReadFault = ⊥
AsksSummary storm text WriteFault = ⊥
AsksSummary storm text NoMemory = ⊥
AsksSummary storm text RefusedWords = ⊥
AsksSummary storm text RefusedCapture = ⊥

-- a generated script asks for a text and a status, and not for two
pub record AsksSomeSummary (storm : Storm) : Type 0 where
  pub text : List ℕ
  pub status : Status
  pub asks : AsksSummary storm text status

-- what was written, by the status: the definitions that every command has, for a generated script, of which nothing is read
abbrev pub IsCutSummary : Storm → List ℕ → Type 0
IsCutSummary storm = by_status.IsCut (λ end read. AsksSummary storm) (Unit {0}) []

abbrev pub SummaryOutcome : Storm → List ℕ → Status → Type 0
SummaryOutcome storm = by_status.Outcome (λ end read. AsksSummary storm) (Unit {0}) []

-- each raw unit that is shown was sent, and each end shows what its partner submitted
abbrev pub IsLawfulRun : Bench → List Event → Type 0
IsLawfulRun last journal = RawLawful (life_of last.world) (titles_of last.world) journal × Lawful (frozen_of last.world) (titles_of last.world) journal

-- whatever front of the lines of a generated script ran, its journal is lawful; so is what was told where a line fills the journal
pub record IsLawfulStorm (storm : Storm) : Type 0 where
  pub ran : (lines rest : List (List Event → List ℕ)) (journal : List Event) (last : Bench) → storm_lines storm ≡ lines ++ rest
      → StormRuns first_bench [] lines journal last → IsLawfulRun last journal
  pub filled : (lines rest : List (List Event → List ℕ)) (line : List Event → List ℕ) (journal made : List Event) (state last : Bench)
      → storm_lines storm ≡ lines ++ line ∷ rest → StormRuns first_bench [] lines journal state → FillsJournal state (line journal) made last
      → IsLawfulRun last (journal ++ made)

-- what was written is told as the status says; and whatever front of the lines ran, its journal is lawful
pub record IsStormRun (storm : Storm) (written : List ℕ) (status : Status) : Type 0 where
  pub outcome : SummaryOutcome storm written status
  pub lawful : IsLawfulStorm storm
