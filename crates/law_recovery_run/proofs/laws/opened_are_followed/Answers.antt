use Rattle.law_recovery_run.proofs.Numbers.{opened_followed}
use Rattle.law_recovery_run.proofs.laws.opened_are_followed.Goals as goal

pub returns : goal.returns
returns g c = opened_followed g.C.Carrier.link g.C.Carrier.steps c.partners_are_followed.ensures c.ends_have_numbers.ensures
