use Rattle.std.proofs.lemmas.Result.{IfOk-weaker}
use Rattle.osi_base.specs.Calls.{Inject}
use Rattle.lan_step.proofs.Keeping.{bag_keeps}
use Rattle.lan_bag.proofs.bag.LanBagCarrier.inject.Goals as goal

pub returns-clause-link : goal.returns-clause-link
returns-clause-link c =
    IfOk-weaker c.inject_octets.result _ _
    (λ answer h. bag_keeps c.args.self.now (Inject c.args.lan c.args.system c.deref.result.now answer) c.inject_octets.new.self h) c.inject_octets.ensures
