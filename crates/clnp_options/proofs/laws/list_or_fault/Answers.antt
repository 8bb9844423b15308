use Rattle.clnp_options.proofs.Allowing.{lists_apart, list_or_fault}
use Rattle.clnp_options.proofs.laws.list_or_fault.Goals as goal

pub returns-clause-apart : goal.returns-clause-apart
returns-clause-apart c = lists_apart

pub returns-clause-all : goal.returns-clause-all
returns-clause-all c = list_or_fault
