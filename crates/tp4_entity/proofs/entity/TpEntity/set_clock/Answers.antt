use Rattle.std.proofs.Common.{◌≤◌, ap, arith}
use Rattle.tp4_entity.specs.Entity.{Entity}
use Rattle.tp4_entity.proofs.PlaceLaws.{entity_later}
use Rattle.tp4_entity.proofs.entity.TpEntity.set_clock.Goals as goal

pub invariant_of-self : goal.invariant_of-self
invariant_of-self g c =
    let same = ap (λ (e : Entity). e.clock) c.self.view_is in
    let later : c.self.inside.clock ≤ c.args.now = omega (arith, same, c.requires) in (
      entity_later _ c.args.now later c.self.invariant.0,
      c.self.invariant.1,
    )
