use Rattle.std.proofs.Common.{refl}
use Rattle.capture_decode.proofs.Parts.{refused_as}
use Rattle.capture_decode.proofs.Taking.{goes_part, fails_part}
use Rattle.capture_decode.proofs.decoder.Decoder.end_part.Goals as goal

pub returns-in-Err-clause-stopped : goal.returns-in-Err-clause-stopped
returns-in-Err-clause-stopped c status is =
    refused_as c.in-Err.status status (fails_part c.args.part.now c.start-start.result c.args.self.now c.args.out.now.items c.read_joined.new.out.items c.start-start.ensures) is (c.in-Err.ensures.stopped c.in-Err.status refl)

pub returns-clause-ok : goal.returns-clause-ok
returns-clause-ok c = goes_part c.args.part.now c.args.self.now c.args.out.now.items _ c.read_joined.new.out.items c.in_default.ensures.ok c.clear.ensures.items refl
