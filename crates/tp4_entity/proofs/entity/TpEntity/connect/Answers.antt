use Rattle.std.proofs.Common.{◌≤◌, ap, sym, subst, arith}
use Rattle.tp4_entity.specs.Entity.{Entity}
use Rattle.tp4_entity.specs.steps.Places.{AreBehind}
use Rattle.tp4_entity.proofs.PlaceLaws.{all_behind}
use Rattle.tp4_entity.proofs.entity.TpEntity.connect.Goals as goal

pub free_place-requires : goal.free_place-requires
free_place-requires g c =
    let clock = ap (λ (e : Entity). e.clock) c.self.view_is in
    let later : c.self.inside.clock ≤ c.args.now = omega (arith, clock, c.requires.clock) in
    subst (AreBehind c.args.now) (sym c.deref.ensures.value) (all_behind c.self.inside.timers c.self.inside.clock c.args.now 1 c.self.inside.ends.items later c.self.invariant.0.places)
