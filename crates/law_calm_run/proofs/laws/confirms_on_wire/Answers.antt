use Rattle.law_calm_run.specs.Service.{WaitsBy}
use Rattle.law_calm_run.proofs.WiredEnds.{confirmed_on_wire}
use Rattle.law_calm_run.proofs.laws.confirms_on_wire.Goals as goal

pub returns : goal.returns
returns g c = λ titles queue_of fifo.
    confirmed_on_wire g.C.Carrier.link g.C.Carrier.steps titles (WaitsBy queue_of) c.whole_run.ensures.run c.whole_run.ensures.whole (c.confirms.ensures titles queue_of fifo)
