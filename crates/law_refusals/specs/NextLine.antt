-- The line behind a script.
use Rattle.std.specs.Prelude.{◌≡◌, ℕ, ◌+◌, List, length}
use Rattle.script_lines.specs.declared.line.Line.{Line}
use Rattle.script_lines.specs.Known.{Declared, nothing_declared}
use Rattle.script_lines.specs.Script.{Says}
use Rattle.script_bench.specs.Acts.{Acts}

-- the lines before a refused one are a script, and it has the next number
pub record IsNextLine {W : Type 0} (acts : Acts W) (before : List (List ℕ)) (line : ℕ) : Type 0 where
  pub lines : List Line
  pub names : Declared
  pub said : Says (nothing_declared acts.dialect) before lines names
  pub number_is : line ≡ length before + 1
