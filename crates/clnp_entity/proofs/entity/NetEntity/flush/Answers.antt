use Rattle.clnp_entity.proofs.Keeping.{kept_swept}
use Rattle.clnp_entity.proofs.entity.NetEntity.flush.Goals as goal

pub invariant_of-self : goal.invariant_of-self
invariant_of-self c = kept_swept _ c.args.now c.expire_all.new.store c.tick.new.self c.tick-2.new.self c.self.invariant c.expire_all.ensures.within.0
    c.expire_all.ensures.within.1 c.expire_all.ensures.within.2 c.tick.ensures.value c.tick-2.ensures.value

pub returns-clause-kept : goal.returns-clause-kept
returns-clause-kept c = kept_swept _ c.args.now c.expire_all.new.store c.tick.new.self c.tick-2.new.self c.self.invariant c.expire_all.ensures.within.0
    c.expire_all.ensures.within.1 c.expire_all.ensures.within.2 c.tick.ensures.value c.tick-2.ensures.value
