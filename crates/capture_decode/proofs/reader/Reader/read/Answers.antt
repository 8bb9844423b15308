use Rattle.std.proofs.Common.{◌∙◌, ap}
use Rattle.capture_decode.specs.steps.Reading.{wanted}
use Rattle.capture_decode.proofs.Parts.{shown_captured, on_ok}
use Rattle.capture_decode.proofs.reader.Reader.read.Goals as goal

pub returns-in-Captured-clause-ok : goal.returns-in-Captured-clause-ok
returns-in-Captured-clause-ok c =
    on_ok c.show.result (shown_captured c.in-Captured.order c.in-Captured.numbers c.args.part.now c.args.self.now c.show.new.self c.args.out.now.items c.show.new.out.items c.in-Captured.is (c.requires.whole ∙ ap wanted c.in-Captured.is)) c.show.ensures.ok
