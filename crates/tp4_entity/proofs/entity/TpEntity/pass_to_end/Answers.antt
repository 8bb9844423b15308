use Rattle.std.proofs.Common.{◌≡◌, ◌+◌, ◌-◌, refl, subst, sym, arith}
use Rattle.std.proofs.lemmas.Option.{slice_get_past, slice_get_read}
use Rattle.std.proofs.lemmas.Result.{on_ok_weaker}
use Rattle.tpdu.specs.Values.{seen, tpdu_of}
use Rattle.tpdu.specs.Writing.{IsAllowed}
use Rattle.tp4_entity.specs.Dues.{AreFrom, due_at}
use Rattle.tp4_entity.specs.Entity.{Entity}
use Rattle.tp4_entity.specs.steps.Places.{format_of}
use Rattle.tp4_entity.proofs.Dues.{due_put, from_get, lasts_at, moved, on_ok_both}
use Rattle.tp4_entity.proofs.PlaceLaws.{Place, end_is, entity_at, entity_set, past_from, place_behind, take_done, take_none}
use Rattle.tp4_entity.proofs.entity.TpEntity.pass_to_end.Goals as goal

pub take_place-requires-clause-behind : goal.take_place-requires-clause-behind
take_place-requires-clause-behind g c =
    let at = c.from.result - 1 in
    let there = slice_get_read c.self.inside.ends.items _ at c.in-Some.place.now c.self.inside.ends.ok.0 (c.in-Some.ensures.variant.0 refl) c.in-Some.ensures.value in
    place_behind c.self.inside.timers c.self.inside.clock c.self.inside.clock (at + 1) c.in-Some.place.now (omega arith) (entity_at _ at c.in-Some.place.now c.self.invariant.0 there)

pub take_place-requires-clause-allowed : goal.take_place-requires-clause-allowed
take_place-requires-clause-allowed g c =
    let at = c.from.result - 1 in
    let there = slice_get_read c.self.inside.ends.items _ at c.in-Some.place.now c.self.inside.ends.ok.0 (c.in-Some.ensures.variant.0 refl) c.in-Some.ensures.value in
    let at_is : c.args.destination ≡ at + 1 = omega arith in
    let is = end_is _ _ c.args.destination at c.in-Some.place.now c.self.view_is at_is there in
    subst (λ (p : Place). IsAllowed (format_of p) (tpdu_of c.args.tpdu.now)) is c.requires.allowed

pub invariant_of-self-2 : goal.invariant_of-self-2
invariant_of-self-2 g c =
    let at = c.from.result - 1 in
    let there = slice_get_read c.self.inside.ends.items _ at c.in-Some.place.now c.self.inside.ends.ok.0 (c.in-Some.ensures.variant.0 refl) c.in-Some.ensures.value in (
      entity_set _ at (at + 1) c.take_place.new.place c.self.invariant.0
          (c.take_place.ensures.kept c.self.inside.timers (at + 1) (entity_at _ at c.in-Some.place.now c.self.invariant.0 there)) refl,
      due_put c.self.inside.due c.take_place.new.due c.self.inside.ends.items at c.take_place.new.place _ c.self.invariant.1 (moved c.self.inside.due (c.from-2.result - 1) at (due_at c.take_place.new.place) c.take_place.new.due (omega (arith, c.from.ensures, c.from-2.ensures)) c.take_place.ensures.due) refl,
    )

pub returns-in_default-clause-step : goal.returns-in_default-clause-step
returns-in_default-clause-step g c =
    let at = c.from.result - 1 in
    let beyond = past_from _ _ c.in_default.ensures.variant.1 in
    let past = slice_get_past c.self.inside.ends.items at (omega (arith, beyond, c.self.inside.ends.ok.0)) in
    let at_is : c.args.destination ≡ at + 1 = omega arith in
    on_ok_weaker c.unmatched-in_default.result
    (λ grows. take_none _ _ c.args.from.now (seen c.args.tpdu.now) c.args.destination at c.args.out.now c.unmatched-in_default.new.out c.self.view_is at_is past grows)
    c.unmatched-in_default.ensures

pub returns-clause-step : goal.returns-clause-step
returns-clause-step g c =
    let at = c.from.result - 1 in
    let there = slice_get_read c.self.inside.ends.items _ at c.in-Some.place.now c.self.inside.ends.ok.0 (c.in-Some.ensures.variant.0 refl) c.in-Some.ensures.value in
    let at_is : c.args.destination ≡ at + 1 = omega arith in
    on_ok_weaker c.take_place.result
    (λ is. take_done _ _ c.args.from.now (seen c.args.tpdu.now) c.args.destination at c.in-Some.place.now c.take_place.new.place c.args.out.now c.take_place.new.out c.self.view_is at_is there is)
    c.take_place.ensures.step

pub take_place-requires-clause-from : goal.take_place-requires-clause-from
take_place-requires-clause-from g c =
    let at = c.from.result - 1 in
    let there = slice_get_read c.self.inside.ends.items _ at c.in-Some.place.now c.self.inside.ends.ok.0 (c.in-Some.ensures.variant.0 refl) c.in-Some.ensures.value in
    from_get c.self.inside.clock at c.self.inside.ends.items c.in-Some.place.now (subst (λ (e : Entity). AreFrom e.clock e.ends) (sym c.self.view_is) c.requires.due) there

pub returns-clause-lasts : goal.returns-clause-lasts
returns-clause-lasts g c =
    let at = c.from.result - 1 in
    let there = slice_get_read c.self.inside.ends.items _ at c.in-Some.place.now c.self.inside.ends.ok.0 (c.in-Some.ensures.variant.0 refl) c.in-Some.ensures.value in
    on_ok_both c.take_place.result
    (λ soon later. lasts_at at _ _ c.in-Some.place.now c.take_place.new.place c.self.view_is c.requires.due there soon later) c.take_place.ensures.from c.take_place.ensures.later
