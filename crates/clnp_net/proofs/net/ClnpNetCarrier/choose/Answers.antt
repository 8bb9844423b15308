use Rattle.std.proofs.lemmas.Result.{IfOk-weaker}
use Rattle.osi_base.specs.Calls.{Choose}
use Rattle.clnp_system.specs.Tables.{rows_tables}
use Rattle.law_clnp_step.proofs.Kept.{net_keeps}
use Rattle.clnp_net.proofs.net.ClnpNetCarrier.choose.Goals as goal

pub returns-clause-link : goal.returns-clause-link
returns-clause-link g c =
    IfOk-weaker c.choose_pick.result _ _ (λ answer h. net_keeps g.C.Carrier.link g.C.Carrier.steps g.met.C.Carrier.keeps g.met.C.Carrier.given rows_tables c.args.self.now (Choose c.args.pick c.args.system answer) c.choose_pick.new.self h) c.choose_pick.ensures
