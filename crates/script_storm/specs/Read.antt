-- That no line of a generated script is refused, and that none injects octets.
use Rattle.std.specs.Prelude.{◌≡◌, ℕ, ◌<◌, List, [], ◌∷◌, Some, Ok}
use Rattle.std.specs.List.{AllByRecursion}
use Rattle.script_lines.specs.declared.words.Dialect.{Dialect}
use Rattle.script_lines.specs.declared.words.Word.{Word}
use Rattle.script_lines.specs.declared.words.Word.TheVariants as words
use Rattle.script_lines.specs.declared.line.Line.{Line}
use Rattle.script_lines.specs.Grammar.{line_read}
use Rattle.script_lines.specs.Injecting.{HasNoInject, IsNoInjection}
use Rattle.script_lines.specs.Known.{Declared, nothing_declared}
use Rattle.script_lines.specs.Script.{Says}
use Rattle.script_lines.specs.Table.{row_of, word_of}
use Rattle.script_storm.specs.Line.{set_up_lines, line_text}

-- the words of the lines
abbrev pub line_words : List Word
line_words =
    words.Lan ∷ words.Es ∷ words.Is ∷ words.Port ∷ words.Route ∷ words.Tsap ∷ words.Start ∷ words.Connect ∷ words.Accept
    ∷ words.Data ∷ words.Expedite ∷ words.Deliver ∷ words.Tick ∷ words.Disconnect ∷ words.Refuse ∷ words.Window ∷ []

-- each of these words names its line in the scripts of the command
abbrev pub RunsStorms : Dialect → Type 0
RunsStorms dialect = AllByRecursion (λ word. word_of dialect (row_of word).text ≡ Some word) line_words

-- the lines of the set-up are read one after another, and after them the line of each word, which declares nothing more; none of them injects octets
pub record AreRead (dialect : Dialect) : Type 0 where
  pub said : List Line
  pub names : Declared
  pub set_up : Says (nothing_declared dialect) set_up_lines said names
  pub none_injects : HasNoInject said
  pub each : (word frames ends : ℕ) → frames < 1000000000 → ends < 1000000000
      → (line : Line) × (line_read names (line_text word frames ends) ≡ Ok (record { line = line; names = names })) × IsNoInjection line
