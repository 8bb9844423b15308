use Rattle.clnp_header.proofs.Answered.{apart, front_or_fault}
use Rattle.clnp_header.proofs.laws.front_or_fault.Goals as goal

pub returns-clause-apart : goal.returns-clause-apart
returns-clause-apart c = apart

pub returns-clause-all : goal.returns-clause-all
returns-clause-all c = front_or_fault
