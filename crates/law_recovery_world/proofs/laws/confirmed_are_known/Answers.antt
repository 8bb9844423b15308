use Rattle.law_recovery_world.proofs.Confirmed.{confirmed_known}
use Rattle.law_recovery_world.proofs.laws.confirmed_are_known.Goals as goal

pub returns : goal.returns
returns g c titles timers journal last calls x y p o w pair =
    let all = c.calls_know.ensures.views titles timers journal last calls in
    confirmed_known g.C.Carrier.link titles timers all.0 journal last all.1 all.2 (c.over_calls.ensures.steady titles timers journal last calls) x y p o w pair
