use Rattle.std.proofs.Common.{ap, subst}
use Rattle.clnp_segment.specs.Joining.{Held}
use Rattle.clnp_segment.specs.Store.{Partial}
use Rattle.clnp_segment.specs.steps.Places.{Judges, segment_of}
use Rattle.clnp_segment.proofs.unit.HeldUnit.judge.Goals as goal

pub returns : goal.returns
returns c = subst (λ (h : Held). Judges h (segment_of c.args.segment.now) c.judge.result) (ap (λ (u : Partial). u.held) c.self.view_is) c.judge.ensures
