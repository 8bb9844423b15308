use Rattle.law_calm_run.specs.Service.{WaitsBy}
use Rattle.law_calm_run.proofs.WiredEnds.{shown_on_wire}
use Rattle.law_calm_run.proofs.laws.has_pairs_on_wire.Goals as goal

pub returns : goal.returns
returns g c = λ titles queue_of fifo.
    shown_on_wire g.C.Carrier.link g.C.Carrier.steps titles (WaitsBy queue_of) c.whole_run.ensures.run (c.has_pairs.ensures.shown titles queue_of fifo)
