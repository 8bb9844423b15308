use Rattle.osi_kinds.specs.declared.kinds.Kind.TheVariants.{Datagrams, Inactive, Relay}
use Rattle.law_outcomes.proofs.laws.kinds_have_one_outcome.Goals as goal

pub returns-clause-some : goal.returns-clause-some
returns-clause-some c Datagrams = c.some_outcome.ensures
returns-clause-some c Inactive = c.some_outcome-2.ensures
returns-clause-some c Relay = c.some_outcome-3.ensures
