use Rattle.capture_decode.proofs.Parts.{on_ok}
use Rattle.capture_decode.proofs.Taking.{overflows}
use Rattle.capture_decode.proofs.decoder.DecoderIntake.push_too_much.Goals as goal

pub returns : goal.returns
returns c = on_ok c.push_too_much.result (overflows c.args.self.now c.args.out.now.items c.push_too_much.new.out.items) c.push_too_much.ensures
