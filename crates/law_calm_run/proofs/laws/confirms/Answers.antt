use Rattle.law_calm_run.specs.Service.{WaitsBy}
use Rattle.law_calm_run.proofs.Accepting.{all_confirmed}
use Rattle.law_calm_run.proofs.laws.confirms.Goals as goal

pub returns : goal.returns
returns g c = λ titles queue_of fifo. all_confirmed g.C.Carrier.link g.C.Carrier.steps g.met.C.Carrier.keeps titles (WaitsBy queue_of) fifo
