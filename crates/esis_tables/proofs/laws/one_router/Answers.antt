use Rattle.esis_tables.proofs.Standing.{same_routers}
use Rattle.esis_tables.proofs.laws.one_router.Goals as goal

pub returns : goal.returns
returns c = same_routers
