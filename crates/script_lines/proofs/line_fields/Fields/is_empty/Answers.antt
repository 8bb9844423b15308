use Rattle.script_lines.proofs.FieldSplits.{nothing_left}
use Rattle.script_lines.proofs.line_fields.Fields.is_empty.Goals as goal

pub returns : goal.returns
returns c = rw (← c.self.view_is) (nothing_left c.self.inside.rest c.is_none.result c.is_none.ensures)
