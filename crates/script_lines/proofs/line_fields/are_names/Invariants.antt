use Rattle.std.proofs.Common.{◌≡◌, length}
use Rattle.std.specs.List.{list_all}
use Rattle.script_lines.specs.Field.{is_name}
use Rattle.script_lines.specs.Reading.{listed_names}
use Rattle.script_lines.proofs.line_fields.are_names.Given as goal

-- the names so far are names
abbrev pub invariant-loop-name : goal.invariant-loop-name
invariant-loop-name l = list_all is_name (listed_names l.field) ≡ list_all is_name l.names

abbrev pub decreases-loop-name : goal.decreases-loop-name
decreases-loop-name l = length l.names
