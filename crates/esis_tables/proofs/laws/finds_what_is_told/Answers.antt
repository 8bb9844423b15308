use Rattle.esis_tables.proofs.Swept.{finds_what_is_told}
use Rattle.esis_tables.proofs.laws.finds_what_is_told.Goals as goal

pub returns : goal.returns
returns c = finds_what_is_told
