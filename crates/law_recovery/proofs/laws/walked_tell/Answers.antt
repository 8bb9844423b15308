use Rattle.law_recovery.proofs.Going.{walked_tell}
use Rattle.law_recovery.proofs.laws.walked_tell.Goals as goal

pub returns : goal.returns
returns g c =
    walked_tell g.C.Carrier.link g.C.Carrier.steps c.partners_are_followed.ensures c.ended_have_left.ensures c.left_are_over.ensures c.partners_are_known.ensures.whole_numbers c.partners_part.ensures
