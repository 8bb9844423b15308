use Rattle.std.proofs.Common.{rules}
use Rattle.esis_pdu.specs.Lent.{value_of}
use Rattle.clnp_entity.proofs.Keeping.{kept_neighbours}
use Rattle.clnp_entity.proofs.entity.NetEntity.record.Goals as goal

pub invariant_of-self : goal.invariant_of-self
invariant_of-self c = kept_neighbours _ c.args.self.now c.args.now c.args.from (value_of c.args.hello.now) c.hear.new.self c.self.view_is c.self.invariant
    c.requires.clock (search rules) c.in-Ok.ensures.value

pub returns-in-Ok-clause-kept : goal.returns-in-Ok-clause-kept
returns-in-Ok-clause-kept c = kept_neighbours _ c.args.self.now c.args.now c.args.from (value_of c.args.hello.now) c.hear.new.self c.self.view_is c.self.invariant
    c.requires.clock (search rules) c.in-Ok.ensures.value
