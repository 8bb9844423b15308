use Rattle.std.proofs.Common.{◌∙◌}
use Rattle.esis_tables.specs.Rows.{is_row_known}
use Rattle.esis_tables.proofs.Keeping.{some_most}
use Rattle.esis_tables.proofs.Sweeping.{table_filter}
use Rattle.esis_tables.proofs.address_table.AddressTable.tick.Goals as goal

pub invariant_of-self : goal.invariant_of-self
invariant_of-self c = (
  table_filter (is_row_known c.args.now) c.self.inside.rows c.sweep_due.new.rows c.sweep_due.ensures.rows c.self.invariant.0,
  (
    c.sweep_due.ensures.most ∙ some_most c.self.inside.due c.in-Some.due c.self.inside.rows c.in-Some.is c.self.invariant.1,
    c.sweep_due.ensures.due,
  ),
)
