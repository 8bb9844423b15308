-- The words of the causes of a refused line.
use Rattle.std.specs.Prelude.{ℕ, List, codes}
use Rattle.script_lines.specs.declared.cause.LineCause.{LineCause}
use Rattle.script_lines.specs.declared.cause.LineCause.TheVariants as causes

abbrev pub cause_text : LineCause → List ℕ
cause_text causes.Long = codes "long"
cause_text causes.Ascii = codes "ascii"
cause_text causes.Word = codes "word"
cause_text causes.Order = codes "order"
cause_text causes.Fields = codes "fields"
cause_text causes.Syntax = codes "syntax"
cause_text causes.Range = codes "range"
cause_text causes.Unknown = codes "unknown"
cause_text causes.Repeat = codes "repeat"
cause_text causes.Many = codes "many"
cause_text causes.Life = codes "life"
