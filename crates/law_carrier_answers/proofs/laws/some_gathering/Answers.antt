use Rattle.law_carrier_answers.proofs.Gatherings.{some_gathering_on}
use Rattle.law_carrier_answers.proofs.laws.some_gathering.Goals as goal

pub returns : goal.returns
returns g c = some_gathering_on g.C.Carrier.link g.C.Carrier.steps g.met.C.Carrier.keeps
