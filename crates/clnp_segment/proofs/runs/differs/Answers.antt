use Rattle.std.proofs.Common.{◌≡◌, ◌∙◌, ℕ, List, max, min, ap, length, sym, arith}
use Rattle.clnp_segment.specs.steps.Spans.{end_of}
use Rattle.clnp_segment.proofs.Clashes.{clash_apart, clash_cut}
use Rattle.clnp_segment.proofs.runs.differs.Goals as goal

pub returns-then-from-to : goal.returns-then-from-to
returns-then-from-to c = λ r start octets.
    let x = c.args.run.now in
    let long : length r.octets ≡ length c.args.octets.now = ap (λ (xs : List ℕ). length xs) octets in
    let from : c.max-from.result ≡ max r.start x.start = omega (arith, c.max-from.ensures, c.from-at.ensures, c.from-start.ensures, start) in
    let to : c.min-to.result ≡ min (end_of x) (end_of r) = omega (arith, c.min-to.ensures, c.end.ensures, c.from-at.ensures, start, long) in
    clash_cut x r c.as_slice.result.now c.args.octets.now c.from-start.result c.from-at.result c.max-from.result c.min-to.result c.ne.result c.as_slice.ensures
    (sym octets) c.from-start.ensures (c.from-at.ensures ∙ sym start) from to c.if-from-to.true c.ne.ensures

pub returns-else-from-to : goal.returns-else-from-to
returns-else-from-to c = λ r start octets.
    let x = c.args.run.now in
    let long : length r.octets ≡ length c.args.octets.now = ap (λ (xs : List ℕ). length xs) octets in
    let from : c.max-from.result ≡ max r.start x.start = omega (arith, c.max-from.ensures, c.from-at.ensures, c.from-start.ensures, start) in
    let to : c.min-to.result ≡ min (end_of x) (end_of r) = omega (arith, c.min-to.ensures, c.end.ensures, c.from-at.ensures, start, long) in
    clash_apart x r c.max-from.result c.min-to.result from to c.if-from-to.false
