use Rattle.law_tp4_lawful.proofs.ActsLines.{Flowing}
use Rattle.law_tp4_lawful.proofs.CalledStarts.{of_whole}
use Rattle.law_recovery_world.specs.Partners.{PairsAreKnown}
use Rattle.law_recovery_world.proofs.Partners.{known_by_timers, partners_agreed, partners_known, partners_timed}
use Rattle.law_recovery_world.proofs.laws.partners_are_known.Goals as goal

pub returns-clause-whole_numbers : goal.returns-clause-whole_numbers
returns-clause-whole_numbers g c titles timers journal last calls x y p o q pair =
    let link = g.C.Carrier.link in
    let all = c.calls_know.ensures.views titles timers journal last calls in
    let steady = c.over_calls.ensures.steady titles timers journal last calls in (
      partners_known link titles timers all.0 journal last all.1 all.2 steady x y p o q pair,
      partners_agreed link titles timers all.0 journal last all.1 all.2 steady x y p o q pair,
      partners_timed link titles timers all.0 journal last all.1 all.2 steady x y p o q pair,
    )

pub returns-clause-on_wire : goal.returns-clause-on_wire
returns-clause-on_wire g c =
    let flow = c.flowed.ensures in
    let flowing : Flowing = record { step = flow.step; partner = flow.partner; later = flow.later; offered = flow.offered; plain = flow.plain; noted = flow.noted } in
    let link = g.C.Carrier.link in
    of_whole link g.C.Carrier.steps g.met.C.Carrier.keeps flowing flow.known c.journals_are_lawful.ensures.begins c.whole_calls.ensures (PairsAreKnown link)
    (λ titles timers journal last calls x y p o q pair.
    let all = c.calls_know.ensures.views titles timers journal last calls in
    known_by_timers link titles timers all.0 journal last all.1 all.2 (c.over_calls.ensures.steady titles timers journal last calls) x y p o q pair)
