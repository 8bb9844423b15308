use Rattle.law_calm_run.specs.Service.{WaitsBy}
use Rattle.law_recovery_run.proofs.Going.{has_gone}
use Rattle.law_recovery_run.proofs.laws.goes_in_order.Goals as goal

pub returns : goal.returns
returns g c titles first queue_of prompt = has_gone g.C.Carrier.link g.C.Carrier.steps g.met.C.Carrier.keeps titles first (WaitsBy queue_of) prompt
