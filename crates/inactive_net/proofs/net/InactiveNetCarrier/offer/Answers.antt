use Rattle.std.proofs.lemmas.Result.{IfOk-weaker}
use Rattle.osi_base.specs.Calls.{Offer}
use Rattle.inactive_step.proofs.Kept.{inactive_keeps}
use Rattle.inactive_net.proofs.net.InactiveNetCarrier.offer.Goals as goal

pub returns-clause-link : goal.returns-clause-link
returns-clause-link g c =
    IfOk-weaker c.offer_unit.result _ _ (λ answer h. inactive_keeps g.C.Carrier.link g.C.Carrier.steps g.met.C.Carrier.keeps g.met.C.Carrier.given c.args.self.now (Offer c.args.unit c.args.wish answer) c.offer_unit.new.self h) c.offer_unit.ensures
