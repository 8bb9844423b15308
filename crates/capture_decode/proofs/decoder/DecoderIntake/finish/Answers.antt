use Rattle.std.proofs.Common.{arith, ◌-◌}
use Rattle.capture_decode.proofs.Taking.{ends_short}
use Rattle.capture_decode.proofs.decoder.DecoderIntake.finish.Goals as goal

pub returns : goal.returns
returns c =
    ends_short (c.start.result - c.behind.result) c.args.self.now c.args.out.now.items c.refuse.new.out.items c.refuse.result (c.is_whole.ensures.part c.if-is_whole.false)
    (omega (arith, c.start.ensures, c.behind.ensures, c.requires.parts)) c.refuse.ensures
