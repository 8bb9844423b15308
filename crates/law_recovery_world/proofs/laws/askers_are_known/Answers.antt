use Rattle.law_recovery_world.proofs.Asking.{askers_known}
use Rattle.law_recovery_world.proofs.laws.askers_are_known.Goals as goal

pub returns : goal.returns
returns g c titles timers journal last calls x y p r w pair =
    let all = c.calls_know.ensures.views titles timers journal last calls in
    askers_known g.C.Carrier.link titles timers all.0 journal last all.1 calls.timed (c.over_calls.ensures.steady titles timers journal last calls) x y p r w pair
