use Rattle.std.proofs.lemmas.Result.{IfOk-weaker}
use Rattle.osi_base.specs.Calls.{Choose}
use Rattle.inactive_step.proofs.Kept.{inactive_keeps}
use Rattle.inactive_net.proofs.net.InactiveNetCarrier.choose.Goals as goal

pub returns-clause-link : goal.returns-clause-link
returns-clause-link g c =
    IfOk-weaker c.choose_pick.result _ _ (λ answer h. inactive_keeps g.C.Carrier.link g.C.Carrier.steps g.met.C.Carrier.keeps g.met.C.Carrier.given c.args.self.now (Choose c.args.pick c.args.system answer) c.choose_pick.new.self h) c.choose_pick.ensures
