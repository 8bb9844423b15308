use Rattle.law_recovery_world.proofs.Asking.{askers_open, askers_show}
use Rattle.law_recovery_world.proofs.laws.askers_open.Goals as goal

pub returns-clause-opened : goal.returns-clause-opened
returns-clause-opened g c = askers_open g.C.Carrier.link g.C.Carrier.steps c.askers_are_known.ensures c.asks_begin.ensures c.pairs_open.ensures.opened

pub returns-clause-shown : goal.returns-clause-shown
returns-clause-shown g c =
    askers_show g.C.Carrier.link g.C.Carrier.steps c.askers_are_known.ensures c.asks_begin.ensures c.pairs_open.ensures.rest c.partners_are_known.ensures.whole_numbers c.known_are_carried.ensures
    c.over_calls.ensures.told
