use Rattle.std.proofs.lemmas.Result.{IfOk-weaker}
use Rattle.osi_base.specs.Calls.{Offer}
use Rattle.clnp_system.specs.Tables.{rows_tables}
use Rattle.law_clnp_step.proofs.Kept.{net_keeps}
use Rattle.clnp_net.proofs.net.ClnpNetCarrier.offer.Goals as goal

pub returns-clause-link : goal.returns-clause-link
returns-clause-link g c =
    IfOk-weaker c.offer_unit.result _ _ (λ answer h. net_keeps g.C.Carrier.link g.C.Carrier.steps g.met.C.Carrier.keeps g.met.C.Carrier.given rows_tables c.args.self.now (Offer c.args.unit c.args.wish answer) c.offer_unit.new.self h) c.offer_unit.ensures
