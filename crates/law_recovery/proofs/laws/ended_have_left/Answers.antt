use Rattle.law_recovery.proofs.Releasing.{ended_left}
use Rattle.law_recovery.proofs.laws.ended_have_left.Goals as goal

pub returns : goal.returns
returns c life t p o q happenings last known agreed timed times ticked leads ended = ended_left c.pairs_part.ensures life t p o q known agreed timed times happenings last ticked leads ended
