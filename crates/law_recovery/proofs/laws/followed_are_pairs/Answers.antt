use Rattle.law_recovery.proofs.Followed.{followed_pairs}
use Rattle.law_recovery.proofs.laws.followed_are_pairs.Goals as goal

pub returns : goal.returns
returns g c = followed_pairs g.C.Carrier.link g.C.Carrier.steps c.partners_are_followed.ensures
