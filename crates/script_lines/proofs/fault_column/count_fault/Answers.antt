use Rattle.std.proofs.Common.{◌∙◌, ap, sym, Some}
use Rattle.script_lines.specs.declared.cause.LineFault.{LineFault}
use Rattle.script_lines.proofs.Ends.{count_step, count_ends}
use Rattle.script_lines.proofs.fault_column.count_fault.Goals as goal

pub returns-in_default : goal.returns-in_default
returns-in_default c =
    ap (λ (found : LineFault). Some found) c.fault.ensures
    ∙ sym (c.loop-form.invariant ∙ count_ends _ _ _ _ _ c.loop-form-test.true c.in_default.ensures.0)

pub loop-form-preserved : goal.loop-form-preserved
loop-form-preserved c = c.loop-form.invariant ∙ count_step _ _ _ _ _ c.in-Some._field.now _ _ c.loop-form-test.true c.in-Some.ensures.0 c.in-Some.ensures.1
