use Rattle.std.proofs.Common.{List, length, Option, ap, arith}
use Rattle.tp4_conn.specs.End.{End}
use Rattle.tp4_entity.proofs.Clearing.{written_back}
use Rattle.tp4_entity.proofs.Dues.{due_new, none_later}
use Rattle.tp4_entity.proofs.PlaceLaws.{entity_new}
use Rattle.tp4_entity.proofs.entity.TpEntity.restart.Goals as goal

pub invariant_of-self : goal.invariant_of-self
invariant_of-self g c =
    let was = ap (λ (places : List (Option End)). length places) c.deref_mut.ensures.value in
    let least = c.self.invariant.0.least in
    let most = c.self.invariant.0.most in
    let same = written_back c.self.inside.ends.items c.clear_places.new.places c.self.inside.ends.len (length c.deref_mut.result.now) c.deref_mut.ensures.len c.clear_places.ensures in (
      entity_new _ (length c.deref_mut.result.now) same (omega (arith, was, least)) (omega (arith, was, most)) c.self.invariant.0.timers,
      due_new _ (length c.deref_mut.result.now) _ _ c.clear_dues.ensures same (omega (arith, was)),
    )

pub returns-clause-later : goal.returns-clause-later
returns-clause-later g c =
    none_later c.args.now (length c.deref_mut.result.now) _
    (written_back c.self.inside.ends.items c.clear_places.new.places c.self.inside.ends.len (length c.deref_mut.result.now) c.deref_mut.ensures.len c.clear_places.ensures)
