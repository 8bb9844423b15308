use Rattle.clnp_entity.proofs.Ending.{goes_all}
use Rattle.clnp_entity.proofs.expiring.expire_all.Goals as goal

pub returns-clause-all : goal.returns-clause-all
returns-clause-all c = goes_all c.args.store.now c.args.now c.loop-unit.expired.items c.loop-unit.store c.expire.new.self c.loop-unit.invariant
    c.in_default.ensures.expires
