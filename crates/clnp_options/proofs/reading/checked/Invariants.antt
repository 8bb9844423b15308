use Rattle.std.proofs.Common.{length, ◌-◌}
use Rattle.clnp_options.proofs.Steps.{Reads}
use Rattle.clnp_options.proofs.reading.checked.Given as goal

abbrev pub invariant-loop-at : goal.invariant-loop-at
invariant-loop-at l = Reads l.kind l.first l.octets l.at

abbrev pub decreases-loop-at : goal.decreases-loop-at
decreases-loop-at l = length l.octets - l.at
