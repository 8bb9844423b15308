-- Whatever part of the octets was run, its lines are a script and the network ran them; so where no injection was taken the journal is lawful, and a system
-- that began again is silent in any case.
use Rattle.std.proofs.Common.{◌≡◌, ℕ, List, None}
use Rattle.script_journal.specs.declared.event.Event.{Event}
use Rattle.script_journal.specs.Lawful.{Lawful}
use Rattle.script_journal.specs.Silence.{KeepsSilence}
use Rattle.script_lines.specs.declared.line.Line.{Line}
use Rattle.script_lines.specs.Known.{Declared, nothing_declared}
use Rattle.script_lines.specs.Script.{Says}
use Rattle.script_lines.specs.declared.words.Dialect.TheVariants as dialects
use Rattle.law_tp4_lawful.proofs.WorldStarts.{front_silent}
use Rattle.script_bench.proofs.Claimed.{shows}
use Rattle.script_world.proofs.Headline.{front_lawful}
use Rattle.law_run.specs.Transcript.{ShowsSilence, ShowsWhatWasSubmitted}
use Rattle.law_run.specs.World.{World, WorldRun, frozen_of, strays_of, titles_of, world_acts}

abbrev IsLawfulRun : List Line → List Event → World → Type 0
IsLawfulRun script journal last = strays_of last ≡ None → Lawful (frozen_of last) (titles_of last) journal

abbrev IsSilentRun : List Line → List Event → World → Type 0
IsSilentRun script journal last = KeepsSilence (frozen_of last) journal

module _ (law : (texts : List (List ℕ)) (script : List Line) (names : Declared) (journal : List Event) (last : World) → Says (nothing_declared dialects.Run) texts script names
    → WorldRun script journal last → strays_of last ≡ None → Lawful (frozen_of last) (titles_of last) journal) where
  pub shows_submitted : (octets : List ℕ) → ShowsWhatWasSubmitted octets
  shows_submitted octets =
      shows world_acts IsLawfulRun (record { runs = law; front = λ script before after last lawful none. front_lawful (frozen_of last) (titles_of last) before after (lawful none) }) octets

module _ (law : (texts : List (List ℕ)) (script : List Line) (names : Declared) (journal : List Event) (last : World) → Says (nothing_declared dialects.Run) texts script names
    → WorldRun script journal last → KeepsSilence (frozen_of last) journal) where
  pub shows_silence : (octets : List ℕ) → ShowsSilence octets
  shows_silence octets = shows world_acts IsSilentRun (record { runs = law; front = λ script before after last silent. front_silent (frozen_of last) before after silent }) octets
