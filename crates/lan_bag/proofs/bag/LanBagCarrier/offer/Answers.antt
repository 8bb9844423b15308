use Rattle.std.proofs.lemmas.Result.{IfOk-weaker}
use Rattle.osi_base.specs.Calls.{Offer}
use Rattle.lan_step.proofs.Keeping.{bag_keeps}
use Rattle.lan_bag.proofs.bag.LanBagCarrier.offer.Goals as goal

pub returns-clause-link : goal.returns-clause-link
returns-clause-link c =
    IfOk-weaker c.offer_unit.result _ _ (λ answer h. bag_keeps c.args.self.now (Offer c.args.unit c.args.wish answer) c.offer_unit.new.self h) c.offer_unit.ensures
