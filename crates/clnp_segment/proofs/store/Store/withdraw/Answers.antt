use Rattle.std.proofs.Common.{◌≡◌, ◌<◌, get_or, length, slice_get, Some, List, ap, sym, ◌∙◌, arith}
use Rattle.std.proofs.lemmas.Option.{slice_get-get_or}
use Rattle.clnp_segment.specs.Store.{Holding, Partial}
use Rattle.clnp_segment.specs.steps.Due.{AreDeadlines}
use Rattle.clnp_segment.proofs.Dues.{due_within, removed_due}
use Rattle.clnp_segment.proofs.Storing.{withdrawn}
use Rattle.clnp_segment.proofs.store.Store.withdraw.Goals as goal

pub returns-clause-unit : goal.returns-clause-unit
returns-clause-unit c =
    let is : c.self.inside.held.items ≡ c.args.self.now.held = ap (λ (s : Holding). s.held) c.self.view_is in
    let there = slice_get-get_or c.args.self.now.held c.args.place c.take_out-unit.result c.requires in
    there ∙ sym (ap Some (c.take_out-unit.ensures.value ∙ ap (λ (us : List Partial). get_or us c.args.place c.take_out-unit.result) is))

pub remove-requires : goal.remove-requires
remove-requires c =
    let is : c.self.inside.held.items ≡ c.args.self.now.held = ap (λ (s : Holding). s.held) c.self.view_is in
    due_within c.self.inside.units c.self.inside.held.items c.self.inside.due c.args.place c.self.invariant.2
    (omega (arith, c.requires, ap (λ (us : List Partial). length us) is))

pub overflow_sub-self : goal.overflow_sub-self
overflow_sub-self c =
    let is : c.self.inside.held.items ≡ c.args.self.now.held = ap (λ (s : Holding). s.held) c.self.view_is in
    let inside : c.args.place < length c.self.inside.held.items = omega (arith, c.requires, ap (λ (us : List Partial). length us) is) in
    let there : slice_get c.self.inside.held.items c.args.place ≡ Some c.take_out-unit.result =
    slice_get-get_or c.self.inside.held.items c.args.place c.take_out-unit.result inside ∙ sym (ap Some c.take_out-unit.ensures.value) in
    omega (arith, (withdrawn _ c.args.place c.take_out-unit.result c.take_out-unit.new.held.items c.self.invariant.0 there c.take_out-unit.ensures.items).1, c.self.invariant.1, c.count.ensures)

pub invariant_of-self : goal.invariant_of-self
invariant_of-self c =
    let is : c.self.inside.held.items ≡ c.args.self.now.held = ap (λ (s : Holding). s.held) c.self.view_is in
    let inside : c.args.place < length c.self.inside.held.items = omega (arith, c.requires, ap (λ (us : List Partial). length us) is) in
    let there : slice_get c.self.inside.held.items c.args.place ≡ Some c.take_out-unit.result =
    slice_get-get_or c.self.inside.held.items c.args.place c.take_out-unit.result inside ∙ sym (ap Some c.take_out-unit.ensures.value) in
    let all = withdrawn _ c.args.place c.take_out-unit.result c.take_out-unit.new.held.items c.self.invariant.0 there c.take_out-unit.ensures.items in
    let due : AreDeadlines c.self.inside.units c.take_out-unit.new.held.items c.remove.new.self =
    removed_due c.self.inside.units c.self.inside.held.items c.take_out-unit.new.held.items c.args.place c.self.inside.due c.remove.new.self
    c.take_out-unit.ensures.items c.self.invariant.2 c.remove.ensures in
    (all.0, omega (arith, all.1, c.self.invariant.1, c.count.ensures), due)

pub returns-clause-within : goal.returns-clause-within
returns-clause-within c =
    let is : c.self.inside.held.items ≡ c.args.self.now.held = ap (λ (s : Holding). s.held) c.self.view_is in
    let inside : c.args.place < length c.self.inside.held.items = omega (arith, c.requires, ap (λ (us : List Partial). length us) is) in
    let there : slice_get c.self.inside.held.items c.args.place ≡ Some c.take_out-unit.result =
    slice_get-get_or c.self.inside.held.items c.args.place c.take_out-unit.result inside ∙ sym (ap Some c.take_out-unit.ensures.value) in
    (withdrawn _ c.args.place c.take_out-unit.result c.take_out-unit.new.held.items c.self.invariant.0 there c.take_out-unit.ensures.items).0
