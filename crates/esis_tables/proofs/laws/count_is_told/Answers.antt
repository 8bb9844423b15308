use Rattle.esis_tables.proofs.Swept.{count_is_told}
use Rattle.esis_tables.proofs.laws.count_is_told.Goals as goal

pub returns : goal.returns
returns c = count_is_told
