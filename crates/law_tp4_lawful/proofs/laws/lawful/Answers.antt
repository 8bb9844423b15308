use Rattle.law_tp4_lawful.proofs.CalledLines.{lines_lawful}
use Rattle.law_tp4_lawful.proofs.laws.lawful.Goals as goal

pub returns : goal.returns
returns g c = lines_lawful g.C.Carrier.link g.C.Carrier.steps c.over_calls.ensures.lawful
