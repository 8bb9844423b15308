use Rattle.std.proofs.Common.{◌∙◌}
use Rattle.esis_tables.proofs.Tagging.{row_none, row_some}
use Rattle.esis_tables.proofs.rows.TaggedRows.row.Goals as goal

pub returns-in-Some : goal.returns-in-Some
returns-in-Some c = c.at_place.ensures ∙ row_some c.args.self.now c.self.inside.rows.items c.args.address.now c.in-Some.place c.self.view_is c.in-Some.ensures

pub returns-in-None : goal.returns-in-None
returns-in-None c = row_none c.args.self.now c.self.inside.rows.items c.args.address.now c.self.view_is c.in-None.ensures
