use Rattle.std.proofs.Common.{◌+◌, ◌∙◌, ℕ, ap, sym, subst, arith}
use Rattle.std.specs.List.{position}
use Rattle.tpdu.specs.Values.{tpdu_of}
use Rattle.tp4_conn.specs.Dues.{IsBefore}
use Rattle.tp4_conn.specs.Table.{due}
use Rattle.tp4_entity.specs.Entity.{Entity}
use Rattle.tp4_entity.specs.References.{is_free_place}
use Rattle.tp4_entity.specs.steps.Places.{AreBehind}
use Rattle.tp4_entity.proofs.Dues.{lasts_put}
use Rattle.tp4_entity.proofs.PlaceLaws.{all_behind, made_done, made_own}
use Rattle.tp4_entity.proofs.entity.TpEntity.make_called_end.Goals as goal

pub free_place-requires : goal.free_place-requires
free_place-requires g c =
    subst (AreBehind c.self.inside.clock) (sym c.deref.ensures.value)
    (all_behind c.self.inside.timers c.self.inside.clock c.self.inside.clock 1 c.self.inside.ends.items (omega arith) c.self.invariant.0.places)

pub put-requires-clause-own : goal.put-requires-clause-own
put-requires-clause-own g c =
    made_own _ _ (c.in-Some.place + 1) c.args.from.now (tpdu_of c.args.cr.now) c.in_ok-end.end c.args.out.now c.incoming.new.out c.self.view_is c.requires.cr c.in_ok-end.ensures.step

pub returns-clause-step : goal.returns-clause-step
returns-clause-step g c =
    made_done _ _ _ c.in-Some.place c.args.source c.args.from.now (tpdu_of c.args.cr.now) c.in_ok-end.end c.args.out.now c.incoming.new.out c.self.view_is c.requires.cr
    (ap (position (is_free_place c.self.inside.clock)) (sym c.deref.ensures.value) ∙ sym c.in-Some.ensures.value) c.in_ok-end.ensures.step c.put.ensures

pub returns-clause-lasts : goal.returns-clause-lasts
returns-clause-lasts g c =
    let clock = ap (λ (e : Entity). e.clock) c.self.view_is in
    lasts_put c.args.self.now.clock (c.in-Some.place + 1) c.args.self.now c.put.new.self c.in_ok-end.end c.put.ensures c.requires.due
    (subst (λ (n : ℕ). IsBefore (due c.in_ok-end.end.base c.in_ok-end.end.stage) n) clock c.in_ok-end.ensures.later)
