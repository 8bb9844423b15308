use Rattle.std.proofs.Common.{arith}
use Rattle.inactive_net.proofs.Strays.{counted_whole, counting_next}
use Rattle.inactive_net.proofs.net.strays_after.Goals as goal

pub loop-place-preserved : goal.loop-place-preserved
loop-place-preserved c =
    counting_next c.args.rows.now c.args.now c.args.floating.now c.args.strays c.args.from c.loop-place.place c.loop-place.count c.stray_at.result c.saturating_add-count.result c.args.waiting.now.items
    (omega (arith, c.loop-place-test.true, c.len-place-end.ensures, c.args.waiting.now.ok.0)) c.loop-place.invariant c.stray_at.ensures c.saturating_add-count.ensures

pub returns : goal.returns
returns c =
    counted_whole c.args.rows.now c.args.now c.args.floating.now c.args.strays c.args.from c.loop-place.place c.loop-place.count c.args.honest c.args.waiting.now.items c.if-honest.false
    (omega (arith, c.loop-place-test.false, c.len-place-end.ensures, c.args.waiting.now.ok.0)) c.loop-place.invariant
