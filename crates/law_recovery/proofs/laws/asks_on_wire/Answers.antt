use Rattle.law_recovery.proofs.AskingWired.{asks_on_wire}
use Rattle.law_recovery.proofs.laws.asks_on_wire.Goals as goal

pub returns : goal.returns
returns g c = asks_on_wire g.C.Carrier.link g.C.Carrier.steps c.whole_run.ensures.run c.whole_run.ensures.whole
