use Rattle.std.proofs.Common.{sym, ◌∙◌}
use Rattle.std.specs.Prelude.{Ok}
use Rattle.script_lines.proofs.Ends.{worded_from, worded_refused}
use Rattle.script_lines.proofs.names.Names.read_worded.Goals as goal

pub returns-in-Ok : goal.returns-in-Ok
returns-in-Ok c =
    let row = c.row_of-row in
    worded_from c.args.self.now c.args.word c.args.past c.args.fields.column c.args.fields.fields (Ok c.read_fields.new.parts) c.new-parts.result
    row.result row.ensures.of_set_up row.ensures.is_later row.ensures.is_first row.ensures.fields c.new-parts.ensures
    (sym c.is_of_later_version.ensures ∙ c.if-is_of_later_version.false) (sym c.is_out_of_order.ensures ∙ c.if-is_out_of_order.false)
    c.in-Ok.ensures c.take_up.result c.take_up.new.self c.take_up.ensures

pub returns-in-Err : goal.returns-in-Err
returns-in-Err c =
    let row = c.row_of-row in
    worded_refused c.args.self.now c.args.word c.args.past c.args.fields.column c.args.fields.fields c.new-parts.result c.read_fields.new.parts
    row.result row.ensures.of_set_up row.ensures.is_later row.ensures.is_first row.ensures.fields c.new-parts.ensures
    (sym c.is_of_later_version.ensures ∙ c.if-is_of_later_version.false) (sym c.is_out_of_order.ensures ∙ c.if-is_out_of_order.false)
    c.in-Err.refusal c.in-Err.ensures
