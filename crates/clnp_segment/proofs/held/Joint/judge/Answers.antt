use Rattle.std.proofs.Common.{◌≡◌, ◌+◌, ◌≤◌, length, sym, ◌∙◌, ap, arith}
use Rattle.clnp_segment.specs.Joining.{Held}
use Rattle.clnp_segment.specs.steps.Places.{segment_of}
use Rattle.clnp_segment.proofs.Joins.{judged}
use Rattle.clnp_segment.proofs.held.Joint.judge.Goals as goal

pub returns : goal.returns
returns c =
    let header : c.args.self.now.header ≡ c.args.segment.now.header = sym (ap (λ (h : Held). h.header) c.self.view_is) ∙ c.if-self-segment.false in
    let total : c.args.self.now.total ≡ c.args.segment.now.total = sym (ap (λ (h : Held). h.total) c.self.view_is) ∙ c.if-self-segment-2.false in
    let fits : c.args.segment.now.offset + length c.args.segment.now.octets.now ≤ length c.args.self.now.slots = omega (arith, c.requires.places, c.requires.within, header, total) in
    judged c.args.self.now (segment_of c.args.segment.now) c.compare.result header total fits
    c.compare.ensures
