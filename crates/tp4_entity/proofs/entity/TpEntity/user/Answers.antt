use Rattle.std.proofs.Common.{◌≡◌, ◌+◌, ◌-◌, ◌∙◌, false, refl, ap, subst, sym, arith}
use Rattle.std.proofs.lemmas.Option.{slice_get_read}
use Rattle.tp4_entity.specs.Dues.{AreFrom, due_at}
use Rattle.tp4_entity.specs.Entity.{Entity}
use Rattle.tp4_entity.specs.steps.Places.{is_memory}
use Rattle.tp4_entity.proofs.Dues.{due_put, from_get, lasts_set, moved}
use Rattle.tp4_entity.proofs.PlaceLaws.{call_done, entity_over, entity_at, entity_now_set, is_not_memory, place_behind, refusal_at}
use Rattle.tp4_entity.proofs.entity.TpEntity.user.Goals as goal

pub call_place-requires-clause-behind : goal.call_place-requires-clause-behind
call_place-requires-clause-behind g c =
    let at = c.from.result - 1 in
    let there = slice_get_read c.self.inside.ends.items _ at c.in-Some.place.now c.self.inside.ends.ok.0 (c.in-Some.ensures.variant.0 refl) c.in-Some.ensures.value in
    let clock = ap (λ (e : Entity). e.clock) c.self.view_is in
    place_behind c.self.inside.timers c.self.inside.clock c.args.now (at + 1) c.in-Some.place.now (omega (arith, clock, c.requires.clock)) (entity_at _ at c.in-Some.place.now c.self.invariant.0 there)

pub invariant_of-self-in-Ok : goal.invariant_of-self-in-Ok
invariant_of-self-in-Ok g c =
    let at = c.from.result - 1 in
    let there = slice_get_read c.self.inside.ends.items _ at c.in-Some.place.now c.self.inside.ends.ok.0 (c.in-Some.ensures.variant.0 refl) c.in-Some.ensures.value in
    let clock = ap (λ (e : Entity). e.clock) c.self.view_is in (
      entity_now_set _ c.args.now at c.in-Some.place.now c.call_place.new.place (omega (arith, clock, c.requires.clock)) c.self.invariant.0 there (c.in-Ok.ensures.kept c.self.inside.timers (at + 1)),
      due_put c.self.inside.due c.call_place.new.due c.self.inside.ends.items at c.call_place.new.place _ c.self.invariant.1 (moved c.self.inside.due (c.from-2.result - 1) at (due_at c.call_place.new.place) c.call_place.new.due (omega (arith, c.from.ensures, c.from-2.ensures)) c.in-Ok.ensures.due) refl,
    )

pub invariant_of-self-in-Err : goal.invariant_of-self-in-Err
invariant_of-self-in-Err g c =
    let at = c.from.result - 1 in
    let there = slice_get_read c.self.inside.ends.items _ at c.in-Some.place.now c.self.inside.ends.ok.0 (c.in-Some.ensures.variant.0 refl) c.in-Some.ensures.value in
    let clock = ap (λ (e : Entity). e.clock) c.self.view_is in
    let same : is_memory c.in-Err.why ≡ false → c.call_place.new.place ≡ c.in-Some.place.now = λ off. (c.in-Err.ensures.err (is_not_memory c.in-Err.why off)).0 in (
      entity_over _ c.clock_after-self-inside.result (is_memory c.in-Err.why) c.args.now at c.in-Some.place.now c.call_place.new.place (omega (arith, clock, c.requires.clock)) c.self.invariant.0 there
          (c.in-Err.ensures.kept c.self.inside.timers (at + 1)) same c.clock_after-self-inside.ensures,
      due_put c.self.inside.due c.call_place.new.due c.self.inside.ends.items at c.call_place.new.place _ c.self.invariant.1 (moved c.self.inside.due (c.from-2.result - 1) at (due_at c.call_place.new.place) c.call_place.new.due (omega (arith, c.from.ensures, c.from-2.ensures)) c.in-Err.ensures.due) refl,
    )

pub returns-in-Ok-clause-allowed : goal.returns-in-Ok-clause-allowed
returns-in-Ok-clause-allowed g c =
    let at = c.from.result - 1 in
    let there = slice_get_read c.self.inside.ends.items _ at c.in-Some.place.now c.self.inside.ends.ok.0 (c.in-Some.ensures.variant.0 refl) c.in-Some.ensures.value in
    refusal_at _ _ c.args.reference at c.args.call c.in-Some.place.now c.self.view_is (omega arith) there ∙ c.in-Ok.ensures.allowed

pub returns-in-Ok-clause-step : goal.returns-in-Ok-clause-step
returns-in-Ok-clause-step g c =
    let at = c.from.result - 1 in
    let there = slice_get_read c.self.inside.ends.items _ at c.in-Some.place.now c.self.inside.ends.ok.0 (c.in-Some.ensures.variant.0 refl) c.in-Some.ensures.value in
    call_done _ _ c.args.now c.args.reference at c.args.call c.in-Some.place.now c.call_place.new.place c.args.out.now c.call_place.new.out c.self.view_is (omega arith) there c.in-Ok.ensures.step

pub returns-in-Ok-clause-refused : goal.returns-in-Ok-clause-refused
returns-in-Ok-clause-refused g c why is =
    let at = c.from.result - 1 in
    let there = slice_get_read c.self.inside.ends.items _ at c.in-Some.place.now c.self.inside.ends.ok.0 (c.in-Some.ensures.variant.0 refl) c.in-Some.ensures.value in
    let none = sym is ∙ refusal_at _ _ c.args.reference at c.args.call c.in-Some.place.now c.self.view_is (omega arith) there ∙ c.in-Ok.ensures.allowed in
    absurd cc

pub returns-in-Err-clause-refused : goal.returns-in-Err-clause-refused
returns-in-Err-clause-refused g c why is =
    let at = c.from.result - 1 in
    let there = slice_get_read c.self.inside.ends.items _ at c.in-Some.place.now c.self.inside.ends.ok.0 (c.in-Some.ensures.variant.0 refl) c.in-Some.ensures.value in
    c.in-Err.ensures.refused why (sym (refusal_at _ _ c.args.reference at c.args.call c.in-Some.place.now c.self.view_is (omega arith) there) ∙ is)

pub returns-in-Err-clause-why : goal.returns-in-Err-clause-why
returns-in-Err-clause-why g c other =
    let at = c.from.result - 1 in
    let there = slice_get_read c.self.inside.ends.items _ at c.in-Some.place.now c.self.inside.ends.ok.0 (c.in-Some.ensures.variant.0 refl) c.in-Some.ensures.value in
    refusal_at _ _ c.args.reference at c.args.call c.in-Some.place.now c.self.view_is (omega arith) there ∙ c.in-Err.ensures.why other

pub call_place-requires-clause-from : goal.call_place-requires-clause-from
call_place-requires-clause-from g c =
    let at = c.from.result - 1 in
    let there = slice_get_read c.self.inside.ends.items _ at c.in-Some.place.now c.self.inside.ends.ok.0 (c.in-Some.ensures.variant.0 refl) c.in-Some.ensures.value in
    from_get c.args.now at c.self.inside.ends.items c.in-Some.place.now (subst (λ (e : Entity). AreFrom c.args.now e.ends) (sym c.self.view_is) c.requires.due) there

pub returns-in-Ok-clause-from : goal.returns-in-Ok-clause-from
returns-in-Ok-clause-from g c =
    let at = c.from.result - 1 in
    let there = slice_get_read c.self.inside.ends.items _ at c.in-Some.place.now c.self.inside.ends.ok.0 (c.in-Some.ensures.variant.0 refl) c.in-Some.ensures.value in
    (lasts_set c.args.now at _ _ c.in-Some.place.now c.call_place.new.place c.self.view_is c.requires.due there c.in-Ok.ensures.from c.in-Ok.ensures.later).0

pub returns-in-Ok-clause-later : goal.returns-in-Ok-clause-later
returns-in-Ok-clause-later g c =
    let at = c.from.result - 1 in
    let there = slice_get_read c.self.inside.ends.items _ at c.in-Some.place.now c.self.inside.ends.ok.0 (c.in-Some.ensures.variant.0 refl) c.in-Some.ensures.value in
    (lasts_set c.args.now at _ _ c.in-Some.place.now c.call_place.new.place c.self.view_is c.requires.due there c.in-Ok.ensures.from c.in-Ok.ensures.later).1
