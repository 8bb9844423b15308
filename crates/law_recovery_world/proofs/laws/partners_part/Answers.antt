use Rattle.law_recovery_world.proofs.Parting.{partners_part}
use Rattle.law_recovery_world.proofs.laws.partners_part.Goals as goal

pub returns : goal.returns
returns g c = partners_part g.C.Carrier.link g.C.Carrier.steps c.partners_are_known.ensures.whole_numbers c.partners_are_lined.ensures c.pairs_part.ensures c.lines_fit.ensures
