use Rattle.std.proofs.Common.{◌∙◌, ap, sym, arith}
use Rattle.tp4_entity.specs.Entity.{Entity, end_at}
use Rattle.tp4_entity.proofs.PlaceLaws.{own_at}
use Rattle.tp4_entity.proofs.entity.TpEntity.is_free.Goals as goal

pub is_over-requires : goal.is_over-requires
is_over-requires g c =
    let clock = ap (λ (e : Entity). e.clock) c.self.view_is in
    let there = ap (λ (e : Entity). end_at e c.args.reference) c.self.view_is ∙ sym c.in-Some.ensures in
    let own = own_at _ c.args.reference c.in-Some.end.now c.self.invariant.0 there in
    omega (arith, clock, own.behind, c.requires.clock)
