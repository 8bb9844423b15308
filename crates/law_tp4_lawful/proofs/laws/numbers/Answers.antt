use Rattle.tp4_number.specs.Number.{whole, wire}
use Rattle.law_tp4_lawful.specs.Called.{OfWhole}
use Rattle.law_tp4_lawful.specs.Numbers.{AreRead}
use Rattle.law_tp4_lawful.proofs.ActsLines.{Flowing}
use Rattle.law_tp4_lawful.proofs.CalledLines.{on_runs}
use Rattle.law_tp4_lawful.proofs.CalledStarts.{on_whole}
use Rattle.law_tp4_lawful.proofs.NumbersRead.{all_read}
use Rattle.law_tp4_lawful.proofs.WorldOutcomes.{one_unit}
use Rattle.law_tp4_lawful.proofs.laws.numbers.Goals as goal

pub returns-clause-whole_numbers : goal.returns-clause-whole_numbers
returns-clause-whole_numbers g c =
    let flow = c.flowed.ensures in
    let flowing : Flowing = record { step = flow.step; partner = flow.partner; later = flow.later; offered = flow.offered; plain = flow.plain; noted = flow.noted } in
    let link = g.C.Carrier.link in
    on_runs link g.C.Carrier.steps whole (AreRead link)
    (on_whole link g.C.Carrier.steps g.met.C.Carrier.keeps flowing flow.known c.journals_are_lawful.ensures.begins (AreRead link)
    (λ titles timers w journal world explains. all_read link titles timers w journal world explains one_unit))

pub returns-clause-wire_numbers : goal.returns-clause-wire_numbers
returns-clause-wire_numbers g c = on_runs g.C.Carrier.link g.C.Carrier.steps wire (OfWhole (AreRead g.C.Carrier.link)) c.over_calls.ensures.numbers
