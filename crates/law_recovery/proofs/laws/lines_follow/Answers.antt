use Rattle.law_tp4_lawful.proofs.ActsLines.{Flowing}
use Rattle.law_calm_run.specs.Service.{WaitsBy}
use Rattle.law_recovery.proofs.Running.{follows_over}
use Rattle.law_recovery.proofs.laws.lines_follow.Goals as goal

pub returns : goal.returns
returns g c titles first queue_of =
    let flow = c.flowed.ensures in
    let flowing : Flowing = record { step = flow.step; partner = flow.partner; later = flow.later; offered = flow.offered; plain = flow.plain; noted = flow.noted } in
    follows_over g.C.Carrier.link g.C.Carrier.steps g.met.C.Carrier.keeps flowing flow.known c.journals_are_lawful.ensures.begins c.moved.ensures.going c.ends_have_numbers.ensures
    c.over_calls.ensures.steady titles first (WaitsBy queue_of)
