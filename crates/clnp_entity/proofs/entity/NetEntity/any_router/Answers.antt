use Rattle.clnp_entity.specs.Kept.{IsNear}
use Rattle.clnp_system.proofs.Hops.{router_is}
use Rattle.clnp_entity.proofs.Near.{near_of}
use Rattle.clnp_entity.proofs.entity.NetEntity.any_router.Goals as goal

pub returns-clause-near : goal.returns-clause-near
returns-clause-near c = near_of _ _ _ _ c.self.view_is c.any_router.ensures.value
    (router_is (IsNear c.self.inside.setup) c.self.inside.neighbours.rows c.args.now c.self.invariant.heard)
