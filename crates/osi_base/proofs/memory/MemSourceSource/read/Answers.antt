use Rattle.std.proofs.Common.{rules}
use Rattle.osi_base.proofs.Fronts.{front_took}
use Rattle.osi_base.proofs.memory.MemSourceSource.read.Goals as goal

pub returns-clause-moved : goal.returns-clause-moved
returns-clause-moved c =
    front_took c.self.inside.at c.move_front-count.result c.self.inside.octets.items c.deref-3.result.now _ _ c.deref-3.ensures.value (search rules) c.move_front-count.ensures.moved
