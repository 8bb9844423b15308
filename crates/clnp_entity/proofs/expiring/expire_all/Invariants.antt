use Rattle.std.proofs.Common.{length}
use Rattle.clnp_entity.proofs.Ending.{GoesOn}
use Rattle.clnp_entity.proofs.expiring.expire_all.Given as goal

abbrev pub invariant-loop-unit : goal.invariant-loop-unit
invariant-loop-unit l = GoesOn l.fn.store l.now l.expired.items l.store

abbrev pub decreases-loop-unit : goal.decreases-loop-unit
decreases-loop-unit l = length l.store.held
