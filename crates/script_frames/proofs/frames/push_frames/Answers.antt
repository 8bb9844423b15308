use Rattle.std.proofs.Common.{◌∙◌, arith}
use Rattle.script_frames.proofs.Framing.{numbered_at, one_written}
use Rattle.script_frames.proofs.frames.push_frames.Goals as goal

pub loop-place-preserved : goal.loop-place-preserved
loop-place-preserved c =
    let slots = c.in-Some.bag.now.frames in
    let place = c.loop-place.place in
    let below = c.loop-place-test.true in
    let behind = c.loop-place.invariant.0 in (
      omega arith,
      omega (arith, below),
      one_written slots c.args.before place _ c.args.out.now.items c.loop-place.out.items c.push_sent.new.out.items behind c.loop-place.invariant.2
          (c.frame.ensures ∙ numbered_at slots place) c.push_sent.ensures.fit c.in-Ok.ensures.told,
    )
