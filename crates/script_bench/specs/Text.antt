-- The closing lines of a transcript.
use Rattle.std.specs.Prelude.{ℕ, List, [], ◌∷◌, ◌++◌, Option, Some, None, codes}
use Rattle.std.specs.Fmt.{decimal}
use Rattle.script_lines.specs.declared.cause.LineFault.{LineFault}
use Rattle.script_lines.specs.Causes.{cause_text}
use Rattle.script_journal.specs.Cells.{line}

-- the line at the end of an input that was handled
abbrev pub done_line : List ℕ
done_line = line (codes "done" ∷ [])

-- how many arrivals equalled no unit afloat
abbrev pub strays_line : ℕ → List ℕ
strays_line count = line (codes "strays" ∷ decimal count ∷ [])

-- the last lines where the input was handled to its end; the strays are told where something was injected
abbrev pub done_lines : Option ℕ → List ℕ
done_lines None = done_line
done_lines (Some strays) = strays_line strays ++ done_line

-- the last line where a limit was passed
abbrev pub toomuch_line : List ℕ
toomuch_line = line (codes "toomuch" ∷ [])

-- the last line where the script's line of this number was refused, with the column and the cause of its first fault
abbrev pub refused_line : ℕ → LineFault → List ℕ
refused_line number fault = line (codes "refused" ∷ decimal number ∷ decimal fault.column ∷ cause_text fault.cause ∷ [])
