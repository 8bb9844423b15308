use Rattle.clnp_system.specs.Node.{frames_in}
use Rattle.clnp_entity.proofs.Started.{drops_long, goes_out}
use Rattle.clnp_entity.proofs.entity.NetEntity.send_by.Goals as goal

pub returns-in-Some-clause-sends : goal.returns-in-Some-clause-sends
returns-in-Some-clause-sends c = goes_out _ c.args.self.now c.set_clock.new.self c.number_if.new.self c.args.now c.args.unit.now c.args.wish c.args.hop.now
    (frames_in c.in-Some.frames) c.self.view_is c.requires.starts (rw c.in-Some.is at c.in_ok-sent.ensures) c.set_clock.ensures.after c.number_if.ensures.after

pub returns-in-None-clause-sends : goal.returns-in-None-clause-sends
returns-in-None-clause-sends c = drops_long _ c.args.self.now c.set_clock.new.self c.args.now c.args.unit.now c.args.wish c.args.hop.now c.self.view_is
    c.requires.starts (rw c.in-None.is at c.in_ok-sent.ensures) c.set_clock.ensures.after
