use Rattle.capture_decode.proofs.Parts.{on_three}
use Rattle.capture_decode.proofs.Taking.{takes_of, stops_of}
use Rattle.capture_decode.proofs.decoder.DecoderIntake.take.Goals as goal

pub returns-clause-ok : goal.returns-clause-ok
returns-clause-ok c =
    on_three c.take_within.result (takes_of c.args.octets.now c.args.self.now c.args.out.now.items c.take_within.new.self c.take_within.new.out.items) c.take_within.ensures.ok c.take_within.ensures.fits c.take_within.ensures.octets

pub returns-clause-stopped : goal.returns-clause-stopped
returns-clause-stopped c status is = stops_of c.args.octets.now c.args.self.now c.args.out.now.items c.take_within.new.out.items status (c.take_within.ensures.stopped status is)
