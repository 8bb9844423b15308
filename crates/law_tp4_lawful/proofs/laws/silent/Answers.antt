use Rattle.law_tp4_lawful.proofs.CalledLines.{lines_silent}
use Rattle.law_tp4_lawful.proofs.laws.silent.Goals as goal

pub returns : goal.returns
returns g c = lines_silent g.C.Carrier.link g.C.Carrier.steps c.over_calls.ensures.silent
