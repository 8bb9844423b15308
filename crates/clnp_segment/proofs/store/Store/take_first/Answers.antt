use Rattle.std.proofs.Common.{◌∙◌, ap, sym}
use Rattle.clnp_segment.specs.Joining.{Segment}
use Rattle.clnp_segment.specs.steps.Incoming.{incoming_of}
use Rattle.clnp_segment.specs.steps.Places.{is_alone}
use Rattle.clnp_segment.proofs.Alone.{first_alone}
use Rattle.clnp_segment.proofs.store.Store.take_first.Goals as goal

pub returns-then-is_unit-clause-takes : goal.returns-then-is_unit-clause-takes
returns-then-is_unit-clause-takes c =
    first_alone c.args.self.now (incoming_of c.args.incoming.now) c.of.result
    (ap is_alone (sym c.segment-segment.ensures) ∙ (sym c.is_unit.ensures ∙ c.if-is_unit.true))
    (c.of.ensures ∙ (c.in_ok-octets.ensures.items ∙ ap (λ (s : Segment). s.octets) c.segment-segment.ensures))
