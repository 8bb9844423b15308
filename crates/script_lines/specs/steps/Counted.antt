-- The fields of a line gone over once: a fault of their count comes before a fault in one of them.
use Rattle.std.specs.Prelude.{ℕ, List, Option, Some, None, Result, Err}
use Rattle.script_lines.specs.declared.cause.LineFault.{LineFault}
use Rattle.script_lines.specs.declared.words.FieldKind.{FieldKind}
use Rattle.script_lines.specs.declared.field_values.FieldValues.{FieldValues}
use Rattle.script_lines.specs.Grammar.{count_fault, fields_read}
use Rattle.script_lines.specs.Known.{Declared}

-- the first of two faults
abbrev pub first_of : Option LineFault → LineFault → LineFault
first_of None found = found
first_of (Some first) found = first

abbrev pub counted : Option LineFault → Result FieldValues LineFault → Result FieldValues LineFault
counted None read = read
counted (Some found) read = Err found

abbrev pub all_read : Declared → FieldValues → ℕ → ℕ → List FieldKind → List (List ℕ) → Result FieldValues LineFault
all_read names parts past column forms fields = counted (count_fault past column forms fields) (fields_read names parts column forms fields)
