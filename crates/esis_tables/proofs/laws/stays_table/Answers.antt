use Rattle.esis_tables.proofs.Swept.{stays_table}
use Rattle.esis_tables.proofs.laws.stays_table.Goals as goal

pub returns : goal.returns
returns c = stays_table
