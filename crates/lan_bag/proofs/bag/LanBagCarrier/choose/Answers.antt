use Rattle.std.proofs.lemmas.Result.{IfOk-weaker}
use Rattle.osi_base.specs.Calls.{Choose}
use Rattle.lan_step.proofs.Keeping.{bag_keeps}
use Rattle.lan_bag.proofs.bag.LanBagCarrier.choose.Goals as goal

pub returns-clause-link : goal.returns-clause-link
returns-clause-link c =
    IfOk-weaker c.choose_pick.result _ _ (λ answer h. bag_keeps c.args.self.now (Choose c.args.pick c.args.system answer) c.choose_pick.new.self h) c.choose_pick.ensures
