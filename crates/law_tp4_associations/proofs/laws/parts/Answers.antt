use Rattle.law_tp4_associations.proofs.Parting.{takes_it}
use Rattle.law_tp4_associations.proofs.laws.parts.Goals as goal

pub returns : goal.returns
returns c = λ z w here there now sent rest out low mine p fit. takes_it z.base w here there now sent rest out low mine z.stage p fit
