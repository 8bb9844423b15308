use Rattle.std.proofs.lemmas.Result.{IfOk-weaker}
use Rattle.osi_base.specs.Calls.{Inject}
use Rattle.inactive_step.proofs.Kept.{inactive_keeps}
use Rattle.inactive_net.proofs.net.InactiveNetCarrier.inject.Goals as goal

pub returns-clause-link : goal.returns-clause-link
returns-clause-link g c =
    IfOk-weaker c.inject_octets.result _ _ (λ answer h. inactive_keeps g.C.Carrier.link g.C.Carrier.steps g.met.C.Carrier.keeps g.met.C.Carrier.given c.args.self.now (Inject c.args.lan c.args.system c.args.octets.items answer) c.inject_octets.new.self h) c.inject_octets.ensures
