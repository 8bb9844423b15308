-- A script: its lines one after another, and the first that is refused.
use Rattle.std.specs.Prelude.{◌≡◌, ℕ, ◌+◌, List, [], ◌∷◌, ◌++◌, length, Ok, Err}
use Rattle.script_lines.specs.declared.cause.LineFault.{LineFault}
use Rattle.script_lines.specs.declared.line.Line.{Line}
use Rattle.script_lines.specs.declared.words.Dialect.{Dialect}
use Rattle.script_lines.specs.Known.{Declared, nothing_declared}
use Rattle.script_lines.specs.Grammar.{line_read}

-- the lines of octets say these lines, each after those before it
abbrev pub Says : Declared → List (List ℕ) → List Line → Declared → Type 0
Says old [] [] new = new ≡ old
Says old [] (line ∷ lines) new = ⊥
Says old (octets ∷ others) [] new = ⊥
Says old (octets ∷ others) (line ∷ lines) new =
    (names : Declared) × (line_read old octets ≡ Ok (record { line = line; names = names })) × Says names others lines new

-- a script of a command: no line of it is refused
abbrev pub Script : Dialect → List (List ℕ) → List Line → Type 0
Script dialect script lines = (last : Declared) × Says (nothing_declared dialect) script lines last

-- the first refused line, by its number from 1
pub record LineFaultAt (dialect : Dialect) (script : List (List ℕ)) (number : ℕ) (found : LineFault) : Type 0 where
  pub before : List (List ℕ)
  pub refused : List ℕ
  pub after : List (List ℕ)
  pub lines : List Line
  pub names : Declared
  pub is : script ≡ before ++ refused ∷ after
  pub said : Says (nothing_declared dialect) before lines names
  pub found_is : line_read names refused ≡ Err found
  pub number_is : number ≡ length before + 1
