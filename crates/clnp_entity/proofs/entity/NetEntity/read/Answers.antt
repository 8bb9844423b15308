use Rattle.std.proofs.lemmas.Result.{IfOk-weaker}
use Rattle.clnp_system.specs.Node.{reaction_in, reaction_of}
use Rattle.clnp_entity.proofs.Received.{faulty_pdu, reads_pdu}
use Rattle.clnp_entity.proofs.entity.NetEntity.read.Goals as goal

pub returns-in-Ok-clause-receives : goal.returns-in-Ok-clause-receives
returns-in-Ok-clause-receives c = IfOk-weaker c.carry_out.result _ _ (λ received h.
    reads_pdu c.args.self.now c.carry_out.new.self c.args.came.now c.in-Ok.pdu (reaction_in received) c.requires.port c.in-Ok.ensures.ok h) c.carry_out.ensures.does

pub returns-in_ok-refused-in-Err-clause-receives : goal.returns-in_ok-refused-in-Err-clause-receives
returns-in_ok-refused-in-Err-clause-receives c =
    faulty_pdu c.args.self.now c.set_clock.new.self c.args.came.now c.in-Err.fault (reaction_of c.in_ok-refused-in-Err.refused) c.requires.port c.requires.first
    c.in-Err.ensures.fault c.in_ok-refused-in-Err.ensures c.set_clock.ensures.after
