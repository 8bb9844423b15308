use Rattle.law_recovery.proofs.Followed.{followed_show}
use Rattle.law_recovery.proofs.laws.followed_show.Goals as goal

pub returns : goal.returns
returns g c = followed_show g.C.Carrier.link g.C.Carrier.steps c.calls_rest.ensures c.followed_are_pairs.ensures c.ends_have_numbers.ensures c.partners_show.ensures
