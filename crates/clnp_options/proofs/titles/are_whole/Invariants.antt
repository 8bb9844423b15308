use Rattle.std.proofs.Common.{◌≡◌, length}
use Rattle.clnp_options.specs.Titles.{are_entries}
use Rattle.clnp_options.proofs.titles.are_whole.Given as goal

abbrev pub invariant-loop-rest : goal.invariant-loop-rest
invariant-loop-rest l = are_entries l.rest ≡ are_entries l.octets

abbrev pub decreases-loop-rest : goal.decreases-loop-rest
decreases-loop-rest l = length l.rest
