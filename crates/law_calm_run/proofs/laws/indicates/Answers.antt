use Rattle.law_calm_run.specs.Service.{WaitsBy}
use Rattle.law_calm_run.proofs.Indicating.{all_indicated}
use Rattle.law_calm_run.proofs.laws.indicates.Goals as goal

pub returns : goal.returns
returns g c = λ titles queue_of fifo. all_indicated g.C.Carrier.link g.C.Carrier.steps g.met.C.Carrier.keeps titles (WaitsBy queue_of) fifo
