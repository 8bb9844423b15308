use Rattle.law_recovery_scripts.proofs.Parting.{scripts_part}
use Rattle.law_recovery_scripts.proofs.laws.scripts_part.Goals as goal

pub returns : goal.returns
returns g c = scripts_part g.C.Carrier.link g.C.Carrier.steps c.scripts_are_ordered.ensures c.partners_part.ensures
