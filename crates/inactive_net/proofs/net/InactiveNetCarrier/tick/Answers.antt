use Rattle.std.proofs.lemmas.Result.{IfOk-weaker}
use Rattle.osi_base.specs.Calls.{Tick}
use Rattle.inactive_step.proofs.Kept.{inactive_keeps}
use Rattle.inactive_net.proofs.net.InactiveNetCarrier.tick.Goals as goal

pub returns-clause-link : goal.returns-clause-link
returns-clause-link g c =
    IfOk-weaker c.tick_once.result _ _ (λ answer h. inactive_keeps g.C.Carrier.link g.C.Carrier.steps g.met.C.Carrier.keeps g.met.C.Carrier.given c.args.self.now Tick c.tick_once.new.self h) c.tick_once.ensures
