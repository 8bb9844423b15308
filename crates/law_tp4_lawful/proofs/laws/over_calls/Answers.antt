use Rattle.law_tp4_lawful.specs.Numbers.{AreRead}
use Rattle.law_tp4_lawful.specs.References.{AreCarried, IsNotBefore, IsOfPartner}
use Rattle.law_tp4_lawful.proofs.ActsLines.{Flowing}
use Rattle.law_tp4_lawful.proofs.CalledStarts.{calls_lawful, of_whole, on_whole, on_wire}
use Rattle.law_tp4_lawful.proofs.NumbersRead.{all_read}
use Rattle.law_tp4_lawful.proofs.ReferencesLater.{not_before}
use Rattle.law_tp4_lawful.proofs.ReferencesRuns.{all_carried, carried_lowered, later_lowered, partner_lowered, partners}
use Rattle.law_tp4_lawful.proofs.SilenceRuns.{calls_silent}
use Rattle.law_tp4_lawful.proofs.WorldOutcomes.{one_unit}
use Rattle.law_tp4_lawful.proofs.laws.over_calls.Goals as goal

pub returns-clause-silent : goal.returns-clause-silent
returns-clause-silent g c = calls_silent g.C.Carrier.link g.C.Carrier.steps g.met.C.Carrier.keeps

pub returns-clause-lawful : goal.returns-clause-lawful
returns-clause-lawful g c =
    let flow = c.flowed.ensures in
    let flowing : Flowing = record { step = flow.step; partner = flow.partner; later = flow.later; offered = flow.offered; plain = flow.plain; noted = flow.noted } in
    let histories = c.journals_are_lawful.ensures in
    calls_lawful g.C.Carrier.link g.C.Carrier.steps g.met.C.Carrier.keeps flowing flow.known histories.begins c.whole_calls.ensures c.times.ensures.fit histories.lawful
    (calls_silent g.C.Carrier.link g.C.Carrier.steps g.met.C.Carrier.keeps)

pub returns-clause-later : goal.returns-clause-later
returns-clause-later g c =
    let flow = c.flowed.ensures in
    let flowing : Flowing = record { step = flow.step; partner = flow.partner; later = flow.later; offered = flow.offered; plain = flow.plain; noted = flow.noted } in
    let link = g.C.Carrier.link in
    let begins = c.journals_are_lawful.ensures.begins in
    on_wire link g.C.Carrier.steps g.met.C.Carrier.keeps flowing flow.known begins c.whole_calls.ensures (IsNotBefore link)
    (λ titles timers journal last calls. later_lowered link last journal (not_before link g.C.Carrier.steps g.met.C.Carrier.keeps flowing flow.known begins titles timers journal last calls))

pub returns-clause-partner : goal.returns-clause-partner
returns-clause-partner g c =
    let flow = c.flowed.ensures in
    let flowing : Flowing = record { step = flow.step; partner = flow.partner; later = flow.later; offered = flow.offered; plain = flow.plain; noted = flow.noted } in
    let link = g.C.Carrier.link in
    let begins = c.journals_are_lawful.ensures.begins in
    on_wire link g.C.Carrier.steps g.met.C.Carrier.keeps flowing flow.known begins c.whole_calls.ensures (IsOfPartner link)
    (on_whole link g.C.Carrier.steps g.met.C.Carrier.keeps flowing flow.known begins _
    (λ titles timers w journal world explains. partner_lowered link world journal (partners link one_unit titles timers w journal world explains)))

pub returns-clause-carries : goal.returns-clause-carries
returns-clause-carries g c =
    let flow = c.flowed.ensures in
    let flowing : Flowing = record { step = flow.step; partner = flow.partner; later = flow.later; offered = flow.offered; plain = flow.plain; noted = flow.noted } in
    let link = g.C.Carrier.link in
    let begins = c.journals_are_lawful.ensures.begins in
    on_wire link g.C.Carrier.steps g.met.C.Carrier.keeps flowing flow.known begins c.whole_calls.ensures (AreCarried link)
    (on_whole link g.C.Carrier.steps g.met.C.Carrier.keeps flowing flow.known begins _
    (λ titles timers w journal world explains. carried_lowered link world journal (all_carried link one_unit titles timers w journal world explains)))

pub returns-clause-numbers : goal.returns-clause-numbers
returns-clause-numbers g c =
    let flow = c.flowed.ensures in
    let flowing : Flowing = record { step = flow.step; partner = flow.partner; later = flow.later; offered = flow.offered; plain = flow.plain; noted = flow.noted } in
    let link = g.C.Carrier.link in
    let begins = c.journals_are_lawful.ensures.begins in
    of_whole link g.C.Carrier.steps g.met.C.Carrier.keeps flowing flow.known begins c.whole_calls.ensures (AreRead link)
    (on_whole link g.C.Carrier.steps g.met.C.Carrier.keeps flowing flow.known begins (AreRead link)
    (λ titles timers w journal world explains. all_read link titles timers w journal world explains one_unit))
