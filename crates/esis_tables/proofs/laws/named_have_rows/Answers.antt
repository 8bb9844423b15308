use Rattle.esis_tables.proofs.Standing.{rows_of_names}
use Rattle.esis_tables.proofs.laws.named_have_rows.Goals as goal

pub returns : goal.returns
returns c = rows_of_names
