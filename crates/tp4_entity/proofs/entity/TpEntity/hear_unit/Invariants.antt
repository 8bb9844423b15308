use Rattle.std.proofs.Common.{length}
use Rattle.tp4_entity.proofs.Heard.{Heard}
use Rattle.tp4_entity.specs.steps.Places.{Lasts}
use Rattle.tp4_entity.proofs.entity.TpEntity.hear_unit.Given as goal

abbrev pub invariant-loop-rest : goal.invariant-loop-rest
invariant-loop-rest g l = Heard l.now l.fn.self l.from l.octets l.rest l.self l.fn.out l.out × Lasts l.now l.fn.self.ends l.self.ends

abbrev pub decreases-loop-rest : goal.decreases-loop-rest
decreases-loop-rest g l = length l.rest
