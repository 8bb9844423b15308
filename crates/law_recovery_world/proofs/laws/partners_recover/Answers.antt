use Rattle.law_recovery_world.proofs.Recovering.{partners_recover}
use Rattle.law_recovery_world.proofs.laws.partners_recover.Goals as goal

pub returns : goal.returns
returns g c = partners_recover g.C.Carrier.link g.C.Carrier.steps c.partners_are_known.ensures.whole_numbers c.known_are_carried.ensures c.pairs_recover.ensures
