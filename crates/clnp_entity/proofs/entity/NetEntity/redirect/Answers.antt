use Rattle.clnp_entity.specs.Kept.{IsNear}
use Rattle.clnp_system.proofs.Hops.{found_is}
use Rattle.clnp_entity.proofs.Near.{near_of}
use Rattle.clnp_entity.proofs.entity.NetEntity.redirect.Goals as goal

pub returns-clause-near : goal.returns-clause-near
returns-clause-near c = near_of _ _ _ _ c.self.view_is c.find.ensures.value
    (found_is (IsNear c.self.inside.setup) c.self.inside.redirects.rows c.args.now c.args.address.now c.self.invariant.better)
