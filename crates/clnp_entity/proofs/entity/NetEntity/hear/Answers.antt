use Rattle.std.proofs.lemmas.Result.{IfOk-weaker}
use Rattle.clnp_system.specs.Node.{reaction_of}
use Rattle.clnp_entity.proofs.Received.{bad_hello, hears_hello}
use Rattle.clnp_entity.proofs.entity.NetEntity.hear.Goals as goal

pub returns-in-Ok-clause-receives : goal.returns-in-Ok-clause-receives
returns-in-Ok-clause-receives c = IfOk-weaker c.hear_hello.result _ _ (λ handled h.
    hears_hello c.args.self.now c.hear_hello.new.self c.args.came.now c.sender.result c.in-Ok.hello (reaction_of handled) c.requires.port c.in-Ok.ensures.ok
    c.sender.ensures h) c.hear_hello.ensures.hears

pub returns-in-Err-clause-receives : goal.returns-in-Err-clause-receives
returns-in-Err-clause-receives c = IfOk-weaker c.note.result _ _ (λ handled h.
    bad_hello c.args.self.now c.note.new.self c.args.came.now c.in-Err.fault c.unreadable-note.result (reaction_of handled) c.requires.port c.requires.first
    c.in-Err.ensures.fault c.unreadable-note.ensures h c.note.ensures.after) c.note.ensures.told
