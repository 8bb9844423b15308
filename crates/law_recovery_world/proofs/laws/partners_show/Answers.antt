use Rattle.law_recovery_world.proofs.Showing.{partners_show}
use Rattle.law_recovery_world.proofs.laws.partners_show.Goals as goal

pub returns : goal.returns
returns g c = partners_show g.C.Carrier.link g.C.Carrier.steps c.partners_recover.ensures c.over_calls.ensures.told
