use Rattle.std.proofs.Common.{◌≡◌, ◌+◌, length}
use Rattle.script_lines.specs.Reading.{listed_names}
use Rattle.script_lines.proofs.line_fields.are_many.Given as goal

-- the names so far are counted
abbrev pub invariant-loop-taken : goal.invariant-loop-taken
invariant-loop-taken l = length (listed_names l.field) ≡ l._taken + length l.names
