use Rattle.clnp_header.specs.Values.{value_of}
use Rattle.clnp_entity.proofs.Received.{goes_sent}
use Rattle.clnp_entity.proofs.entity.NetEntity.pass.Goals as goal

pub returns-in-Some : goal.returns-in-Some
returns-in-Some c = goes_sent _ c.args.self.now c.args.came.now (value_of c.args.pdu.now) c.args.hop.now _ c.new.result.items c.in-Some.frames.items c.self.view_is
    (rw c.in-Some.is at c.in_ok-sent.ensures) c.new.ensures.items
