use Rattle.std.specs.Prelude.{◌++◌}
use Rattle.law_recovery.proofs.Playing.{plays}
use Rattle.law_recovery.proofs.laws.runs_part.Goals as goal

pub returns : goal.returns
returns g c titles first queue_of prompt timers early late old last script x y life t p o q calls ready followed known agreed timed times run =
    plays c.pairs_part.ensures g.C.Carrier.link (early ++ late) last x y life t p o q known agreed timed times
    (λ live live_there. c.runs_last.ensures titles first queue_of prompt timers early late old last script x y p calls ready followed live live_there run)
