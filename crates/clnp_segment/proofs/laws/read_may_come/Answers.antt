use Rattle.clnp_segment.proofs.Read.{read_handed_on, read_may_come}
use Rattle.clnp_segment.proofs.laws.read_may_come.Goals as goal

pub returns-clause-may_come : goal.returns-clause-may_come
returns-clause-may_come c = read_may_come

pub returns-clause-handed_on : goal.returns-clause-handed_on
returns-clause-handed_on c = read_handed_on
