use Rattle.law_calm_run.specs.Service.{WaitsBy}
use Rattle.law_calm_run.proofs.Indicating.{all_indicated}
use Rattle.law_calm_run.proofs.Wired.{indicated_on_wire}
use Rattle.law_calm_run.proofs.laws.indicates_on_wire.Goals as goal

pub returns : goal.returns
returns g c = λ titles queue_of fifo.
    indicated_on_wire g.C.Carrier.link g.C.Carrier.steps titles (WaitsBy queue_of) c.whole_run.ensures.run c.whole_run.ensures.whole
    (all_indicated g.C.Carrier.link g.C.Carrier.steps g.met.C.Carrier.keeps titles (WaitsBy queue_of) fifo)
