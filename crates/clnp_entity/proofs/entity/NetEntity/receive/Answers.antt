use Rattle.clnp_system.specs.Node.{reaction_of}
use Rattle.clnp_entity.proofs.Received.{alien}
use Rattle.clnp_entity.proofs.entity.NetEntity.receive.Goals as goal

pub returns-clause-receives : goal.returns-clause-receives
returns-clause-receives c =
    alien c.args.self.now c.note.new.self c.args.came.now c.octet_at-first.result c.system-system.result (reaction_of c.in_ok-noted.noted) c.requires.port
    c.octet_at-first.ensures c.if-first.false c.if-first-2.false c.system-system.ensures c.in_ok-noted.ensures.told c.in_ok-noted.ensures.after
