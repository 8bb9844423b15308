use Rattle.clnp_segment.proofs.Determined.{one_answer, one_expiry}
use Rattle.clnp_segment.proofs.laws.one_answer.Goals as goal

pub returns-clause-takes : goal.returns-clause-takes
returns-clause-takes c = one_answer

pub returns-clause-expires : goal.returns-clause-expires
returns-clause-expires c = one_expiry
