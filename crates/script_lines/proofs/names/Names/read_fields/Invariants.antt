use Rattle.std.proofs.Common.{◌≡◌, length}
use Rattle.script_lines.specs.steps.Counted.{all_read}
use Rattle.script_lines.proofs.names.Names.read_fields.Given as goal

-- what is left, read after the parts so far, gives what all gives
abbrev pub invariant-loop-form : goal.invariant-loop-form
invariant-loop-form l =
    all_read l.self l.fn.parts l.past l.fn.fields.column l.forms l.fn.fields.fields ≡ all_read l.self l.parts l.past l.fields.column l.left l.fields.fields

abbrev pub decreases-loop-form : goal.decreases-loop-form
decreases-loop-form l = length l.left
