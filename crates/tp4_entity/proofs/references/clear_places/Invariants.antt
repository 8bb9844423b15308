use Rattle.std.proofs.Common.{◌≡◌, ◌++◌, None, drop, replicate}
use Rattle.tp4_entity.proofs.references.clear_places.Given as goal

abbrev pub invariant-loop-at : goal.invariant-loop-at
invariant-loop-at g l = l.places ≡ replicate l.at None ++ drop l.at l.fn.places
