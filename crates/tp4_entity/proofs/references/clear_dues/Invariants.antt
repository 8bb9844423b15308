use Rattle.std.proofs.Common.{◌≡◌, ◌++◌, None, drop, replicate}
use Rattle.tp4_entity.proofs.references.clear_dues.Given as goal

abbrev pub invariant-loop-id : goal.invariant-loop-id
invariant-loop-id l = l.due ≡ replicate l.id None ++ drop l.id l.fn.due
