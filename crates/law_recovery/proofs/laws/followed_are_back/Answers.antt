use Rattle.law_recovery.proofs.Back.{followed_back}
use Rattle.law_recovery.proofs.laws.followed_are_back.Goals as goal

pub returns : goal.returns
returns g c = followed_back g.C.Carrier.link g.C.Carrier.steps c.ends_have_numbers.ensures c.followed_show.ensures c.followed_part.ensures
