use Rattle.law_carrier_answers.proofs.Gatherings.{one_gathering}
use Rattle.law_carrier_answers.proofs.laws.one_gathering.Goals as goal

pub returns : goal.returns
returns g c = one_gathering g.C.Carrier.link g.C.Carrier.steps
