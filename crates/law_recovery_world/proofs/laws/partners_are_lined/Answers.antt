use Rattle.law_tp4_history.specs.Moves.{times_of}
use Rattle.law_tp4_history.specs.Seen.{no_terms}
use Rattle.law_recovery_world.proofs.Lined.{partners_lined}
use Rattle.law_recovery_world.proofs.laws.partners_are_lined.Goals as goal

pub returns : goal.returns
returns g c titles timers journal last calls x y p o q pair =
    let all = c.calls_know.ensures.views titles timers journal last calls in
    let kept = c.over_calls.ensures in
    (times_of timers, no_terms, partners_lined g.C.Carrier.link titles timers all.0 journal last all.1 (kept.steady titles timers journal last calls) (kept.short titles timers journal last calls) x y p o q pair)
