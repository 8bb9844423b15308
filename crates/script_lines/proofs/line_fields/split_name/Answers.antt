use Rattle.std.proofs.Common.{Some, None, arith}
use Rattle.std.proofs.lemmas.Str.Pattern.{split_once_first}
use Rattle.script_lines.proofs.FieldSplits.{first_name, only_name}
use Rattle.script_lines.proofs.line_fields.split_name.Goals as goal

pub returns-in-Some : goal.returns-in-Some
returns-in-Some c =
    let cut = split_once_first 44 c.args.list.now (Some (c.in-Some.name, c.in-Some.rest)) c.in-Some.ensures.cases (omega arith) in
    first_name c.args.list.now c.in-Some.name.now c.in-Some.rest.now (record { at = cut.0; field_is = cut.1; rest_is = cut.2 })

pub returns-in-None : goal.returns-in-None
returns-in-None c = only_name c.args.list.now (split_once_first 44 c.args.list.now None c.in-None.ensures.cases (omega arith))
