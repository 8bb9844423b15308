use Rattle.std.proofs.Common.{◌≡◌, ℕ, ◌+◌, List, None, Option, Some, ap, refl, slice_get, subst, sym, ◌∙◌, arith}
use Rattle.std.proofs.lemmas.Option.{slice_get-get_or}
use Rattle.clnp_segment.specs.Store.{Expires, ExpiresFirst, Holding, Partial}
use Rattle.clnp_segment.specs.declared.store.Expired.{Expired}
use Rattle.clnp_segment.proofs.Dues.{expires_first, finds_none, finds_some, found_within, removed_due}
use Rattle.clnp_segment.proofs.Storing.{withdrawn, within_at}
use Rattle.clnp_segment.proofs.store.Store.expire.Goals as goal

abbrev holding : ℕ → ℕ → ℕ → List Partial → Holding
holding clock units octets held = record { clock = clock; units = units; octets = octets; held = held }

pub returns-in_err-place-clause-expires : goal.returns-in_err-place-clause-expires
returns-in_err-place-clause-expires c =
    let after : Holding = holding c.args.now c.self.inside.units c.self.inside.octets c.self.inside.held.items in
    let h = c.in_ok-checked_sub.ensures in
    let next : c.args.now ≡ c.in_ok-checked_sub.field-0 + 1 = omega (arith, h) in
    subst (λ (found : Option Expired). Expires c.args.self.now c.args.now found after) (sym c.from_residual-in_err-place.ensures)
    (subst (λ (s : Holding). Expires s c.args.now None after) c.self.view_is (
      finds_none c.args.now c.in_ok-checked_sub.field-0 c.self.inside.units c.self.inside.held.items c.self.inside.due c.pop.new.self next c.self.invariant.2
          c.in_err-place.ensures,
      refl,
    ))

pub take_out-unit-requires : goal.take_out-unit-requires
take_out-unit-requires c =
    let h = found_within c.in_ok-checked_sub.field-0 c.self.inside.units c.self.inside.held.items c.self.inside.due c.pop.new.self c.in_ok-place.place c.self.invariant.2 c.in_ok-place.ensures in
    omega (arith, h)

pub overflow_sub-self : goal.overflow_sub-self
overflow_sub-self c =
    let inside = found_within c.in_ok-checked_sub.field-0 c.self.inside.units c.self.inside.held.items c.self.inside.due c.pop.new.self c.in_ok-place.place c.self.invariant.2 c.in_ok-place.ensures in
    let there : slice_get c.self.inside.held.items c.in_ok-place.place ≡ Some c.take_out-unit.result =
    slice_get-get_or c.self.inside.held.items c.in_ok-place.place c.take_out-unit.result inside ∙ sym (ap Some c.take_out-unit.ensures.value) in
    omega (arith, (withdrawn _ c.in_ok-place.place c.take_out-unit.result c.take_out-unit.new.held.items c.self.invariant.0 there c.take_out-unit.ensures.items).1, c.self.invariant.1, c.count.ensures)

pub invariant_of-self-2 : goal.invariant_of-self-2
invariant_of-self-2 c =
    let inside = found_within c.in_ok-checked_sub.field-0 c.self.inside.units c.self.inside.held.items c.self.inside.due c.pop.new.self c.in_ok-place.place c.self.invariant.2 c.in_ok-place.ensures in
    let there : slice_get c.self.inside.held.items c.in_ok-place.place ≡ Some c.take_out-unit.result =
    slice_get-get_or c.self.inside.held.items c.in_ok-place.place c.take_out-unit.result inside ∙ sym (ap Some c.take_out-unit.ensures.value) in
    let all = withdrawn _ c.in_ok-place.place c.take_out-unit.result c.take_out-unit.new.held.items c.self.invariant.0 there c.take_out-unit.ensures.items in (
      within_at (holding c.self.inside.clock c.self.inside.units c.self.inside.octets c.take_out-unit.new.held.items)
          (holding c.args.now c.self.inside.units c.self.inside.octets c.take_out-unit.new.held.items) refl refl refl all.0,
      omega (arith, all.1, c.self.invariant.1, c.count.ensures),
      removed_due c.self.inside.units c.self.inside.held.items c.take_out-unit.new.held.items c.in_ok-place.place c.self.inside.due c.pop.new.self c.take_out-unit.ensures.items
          c.self.invariant.2 c.in_ok-place.ensures.1,
    )

pub returns-clause-within : goal.returns-clause-within
returns-clause-within c =
    let inside = found_within c.in_ok-checked_sub.field-0 c.self.inside.units c.self.inside.held.items c.self.inside.due c.pop.new.self c.in_ok-place.place c.self.invariant.2 c.in_ok-place.ensures in
    let there : slice_get c.self.inside.held.items c.in_ok-place.place ≡ Some c.take_out-unit.result =
    slice_get-get_or c.self.inside.held.items c.in_ok-place.place c.take_out-unit.result inside ∙ sym (ap Some c.take_out-unit.ensures.value) in
    let all = withdrawn _ c.in_ok-place.place c.take_out-unit.result c.take_out-unit.new.held.items c.self.invariant.0 there c.take_out-unit.ensures.items in
    within_at (holding c.self.inside.clock c.self.inside.units c.self.inside.octets c.take_out-unit.new.held.items)
    (holding c.args.now c.self.inside.units c.self.inside.octets c.take_out-unit.new.held.items) refl refl refl all.0

pub returns-clause-expires : goal.returns-clause-expires
returns-clause-expires c =
    let before : Holding = holding c.self.inside.clock c.self.inside.units c.self.inside.octets c.self.inside.held.items in
    let after : Holding = holding c.args.now c.self.inside.units c.self.inside.octets c.take_out-unit.new.held.items in
    let h = c.in_ok-checked_sub.ensures in
    let next : c.args.now ≡ c.in_ok-checked_sub.field-0 + 1 = omega (arith, h) in
    let inside = found_within c.in_ok-checked_sub.field-0 c.self.inside.units c.self.inside.held.items c.self.inside.due c.pop.new.self c.in_ok-place.place c.self.invariant.2 c.in_ok-place.ensures in
    let there : slice_get c.self.inside.held.items c.in_ok-place.place ≡ Some c.take_out-unit.result =
    slice_get-get_or c.self.inside.held.items c.in_ok-place.place c.take_out-unit.result inside ∙ sym (ap Some c.take_out-unit.ensures.value) in
    subst (λ (s : Holding). ExpiresFirst s c.args.now c.expired.result after) c.self.view_is
    (expires_first before c.args.now c.in_ok-place.place c.take_out-unit.result c.expired.result after
    (finds_some c.args.now c.in_ok-checked_sub.field-0 c.self.inside.units c.self.inside.held.items c.self.inside.due c.pop.new.self c.in_ok-place.place next c.self.invariant.2 c.in_ok-place.ensures)
    there c.expired.ensures
    (ap (λ (us : List Partial). holding c.args.now c.self.inside.units c.self.inside.octets us) c.take_out-unit.ensures.items))
