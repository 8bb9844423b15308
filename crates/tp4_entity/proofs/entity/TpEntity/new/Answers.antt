use Rattle.std.proofs.Common.{arith, ◌∙◌, None, ap, replicate}
use Rattle.tp4_entity.proofs.Dues.{due_new}
use Rattle.tp4_entity.proofs.PlaceLaws.{entity_new}
use Rattle.tp4_entity.proofs.entity.TpEntity.new.Goals as goal

pub invariant_of-result : goal.invariant_of-result
invariant_of-result g c = (
  entity_new _ c.args.references (c.in_ok-ends.ensures ∙ ap (λ n. replicate n None) c.from.ensures) c.requires.least c.requires.most c.requires.timers,
  due_new _ c.args.references _ _ c.in_ok-due.ensures (c.in_ok-ends.ensures ∙ ap (λ n. replicate n None) c.from.ensures) (omega (arith, c.from-2.ensures)),
)
