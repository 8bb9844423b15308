use Rattle.clnp_entity.specs.Kept.{IsNear}
use Rattle.clnp_system.proofs.Hops.{next_is}
use Rattle.clnp_entity.proofs.Near.{near_of}
use Rattle.clnp_entity.proofs.entity.NetEntity.route.Goals as goal

pub returns-clause-near : goal.returns-clause-near
returns-clause-near c = near_of _ _ _ _ c.self.view_is c.next_hop.ensures
    (next_is (IsNear c.self.inside.setup) c.self.inside.setup.rows c.args.address.now c.self.invariant.setting.hops)
