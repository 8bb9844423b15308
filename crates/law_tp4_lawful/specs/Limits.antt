-- The limits of a script that its lines keep.
use Rattle.std.specs.Prelude.{◌≤◌, length}
use Rattle.script_lines.specs.declared.line.Line.{Line}
use Rattle.script_lines.specs.declared.line.Line.TheVariants as lines
use Rattle.tp4_conn.specs.End.{IsSized}

-- the line keeps the limits of the script: the size of a TPDU is one that a script may name, a selector has 32 octets at most, and a credit is at most 255
abbrev pub IsProperLine : Line → Type 0
IsProperLine (lines.Connect system selector to called options octets) = IsSized options × (length selector ≤ 32) × (length called ≤ 32)
IsProperLine (lines.Accept end options octets) = IsSized options
IsProperLine (lines.Window end credit) = credit ≤ 255
IsProperLine line = Unit {0}
