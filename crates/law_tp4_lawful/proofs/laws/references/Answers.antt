use Rattle.tp4_number.specs.Number.{wire}
use Rattle.law_tp4_lawful.specs.References.{AreCarried, IsNotBefore, IsOfPartner}
use Rattle.law_tp4_lawful.proofs.CalledLines.{on_runs}
use Rattle.law_tp4_lawful.proofs.laws.references.Goals as goal

pub returns-clause-later : goal.returns-clause-later
returns-clause-later g c = on_runs g.C.Carrier.link g.C.Carrier.steps wire (IsNotBefore g.C.Carrier.link) c.over_calls.ensures.later

pub returns-clause-partner : goal.returns-clause-partner
returns-clause-partner g c = on_runs g.C.Carrier.link g.C.Carrier.steps wire (IsOfPartner g.C.Carrier.link) c.over_calls.ensures.partner

pub returns-clause-carries : goal.returns-clause-carries
returns-clause-carries g c = on_runs g.C.Carrier.link g.C.Carrier.steps wire (AreCarried g.C.Carrier.link) c.over_calls.ensures.carries
