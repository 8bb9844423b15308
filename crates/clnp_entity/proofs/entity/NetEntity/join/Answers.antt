use Rattle.std.proofs.lemmas.Result.{IfOk-weaker}
use Rattle.clnp_header.specs.Values.{value_of}
use Rattle.clnp_system.specs.Node.{reaction_in}
use Rattle.clnp_entity.proofs.Joining.{joins_of}
use Rattle.clnp_entity.proofs.entity.NetEntity.join.Goals as goal

pub returns-clause-joins : goal.returns-clause-joins
returns-clause-joins c = IfOk-weaker c.joined.result _ _
    (λ received h. joins_of c.args.self.now c.put.new.self c.args.came.now (value_of c.args.pdu.now) c.in_ok-joined.joined (reaction_in received)
    c.requires.segment c.in_ok-joined.ensures.puts h) c.joined.ensures
