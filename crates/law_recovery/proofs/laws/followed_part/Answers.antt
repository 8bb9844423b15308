use Rattle.law_recovery.proofs.Followed.{followed_part}
use Rattle.law_recovery.proofs.laws.followed_part.Goals as goal

pub returns : goal.returns
returns g c = followed_part g.C.Carrier.link g.C.Carrier.steps c.followed_are_pairs.ensures c.partners_part.ensures
