use Rattle.std.proofs.Common.{arith, false, refl}
use Rattle.clnp_net.proofs.Parts.{counted_whole, counting_next}
use Rattle.clnp_net.proofs.net.strays_with.Goals as goal

pub loop-place-preserved : goal.loop-place-preserved
loop-place-preserved c =
    counting_next c.args.strays c.args.from c.loop-place.place c.loop-place.count c.stray_at.result c.saturating_add-count.result c.args.floating.now.entries c.args.waiting.now.items
    (omega (arith, c.loop-place-test.true, c.len-place-end.ensures, c.args.waiting.now.ok.0)) c.loop-place.invariant c.stray_at.ensures c.saturating_add-count.ensures

pub returns : goal.returns
returns c =
    counted_whole c.args.strays c.args.from c.loop-place.place c.loop-place.count false c.args.floating.now.entries c.args.waiting.now.items refl
    (omega (arith, c.loop-place-test.false, c.len-place-end.ensures, c.args.waiting.now.ok.0)) c.loop-place.invariant
