use Rattle.std.proofs.Common.{subst, sym}
use Rattle.clnp_segment.specs.Joining.{Filled}
use Rattle.clnp_segment.specs.Store.{Partial}
use Rattle.clnp_segment.specs.steps.Places.{segment_of, with_segment}
use Rattle.clnp_segment.proofs.unit.HeldUnit.whole.Goals as goal

pub unit-requires : goal.unit-requires
unit-requires c = subst Filled (sym c.in_ok-write.ensures.ok) (subst (λ (u : Partial). Filled (with_segment u.held (segment_of c.args.segment.now))) (sym c.self.view_is) c.requires.filled)
