use Rattle.esis_tables.proofs.Swept.{stays_swept}
use Rattle.esis_tables.proofs.laws.stays_swept.Goals as goal

pub returns : goal.returns
returns c = stays_swept
