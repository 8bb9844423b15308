use Rattle.std.proofs.Common.{Some, None, arith}
use Rattle.std.proofs.lemmas.Str.Pattern.{split_once_first}
use Rattle.script_lines.proofs.FieldSplits.{first_field, only_field}
use Rattle.script_lines.proofs.line_fields.split_field.Goals as goal

pub returns-in-Some-clause-fields : goal.returns-in-Some-clause-fields
returns-in-Some-clause-fields c =
    let cut = split_once_first 32 c.args.line.now (Some (c.in-Some.field, c.in-Some.rest)) c.in-Some.ensures.cases (omega arith) in
    first_field c.args.line.now c.in-Some.field.now c.in-Some.rest.now (record { at = cut.0; field_is = cut.1; rest_is = cut.2 })

pub returns-in-None-clause-fields : goal.returns-in-None-clause-fields
returns-in-None-clause-fields c = only_field c.args.line.now (split_once_first 32 c.args.line.now None c.in-None.ensures.cases (omega arith))
