use Rattle.std.proofs.Common.{◌≡◌, None, replicate}
use Rattle.tp4_entity.proofs.references.no_ends.Given as goal

abbrev pub invariant-loop : goal.invariant-loop
invariant-loop g l = l.ends.items ≡ replicate l.counter None
