use Rattle.clnp_entity.proofs.Started.{drops}
use Rattle.clnp_entity.proofs.entity.NetEntity.send.Goals as goal

pub returns-in-Err-clause-sends : goal.returns-in-Err-clause-sends
returns-in-Err-clause-sends c = drops c.args.self.now c.set_clock.new.self c.args.now c.args.unit.now c.args.wish c.in-Err.cause c.in-Err.ensures.value
    c.set_clock.ensures.after
