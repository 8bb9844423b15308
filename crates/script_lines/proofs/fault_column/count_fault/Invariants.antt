use Rattle.std.proofs.Common.{◌≡◌, drop}
use Rattle.script_lines.specs.Grammar.{count_fault}
use Rattle.script_lines.proofs.fault_column.count_fault.Given as goal

-- what is left tells the fault of all
abbrev pub invariant-loop-form : goal.invariant-loop-form
invariant-loop-form l =
    count_fault l.past l.fn.fields.column l.forms l.fn.fields.fields ≡ count_fault l.past l.fields.column (drop l._form-index l.forms) l.fields.fields
