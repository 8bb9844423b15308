use Rattle.std.proofs.Common.{◌≡◌, ◌++◌, drop}
use Rattle.std.specs.Prelude.{map}
use Rattle.capture_show.specs.steps.Written.{field_text, tail}
use Rattle.capture_show.proofs.field.write_others.Given as goal

-- what stands, with what is left of the line, is the line
abbrev pub invariant-loop-field : goal.invariant-loop-field
invariant-loop-field l =
    l.out.items ++ tail (map field_text (drop l.field-index l.fields)) ≡ l.initial.out.items ++ tail (map field_text l.fields)
