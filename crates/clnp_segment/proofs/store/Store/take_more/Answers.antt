use Rattle.std.proofs.Common.{◌≡◌, ℕ, ◌+◌, ◌<◌, ◌≤◌, length, slice_get, slice_set, Some, List, ap, refl, subst, ◌∙◌, arith}
use Rattle.clnp_segment.specs.Joining.{Filled}
use Rattle.clnp_segment.specs.Store.{Holding, Partial, octets_held}
use Rattle.clnp_segment.specs.steps.Due.{AreDeadlines}
use Rattle.clnp_segment.specs.steps.Incoming.{incoming_of}
use Rattle.clnp_segment.specs.steps.Places.{Judges, segment_of, with_segment}
use Rattle.clnp_segment.specs.declared.held.Verdict.TheVariants as verdict
use Rattle.clnp_segment.proofs.Dues.{changed_due, due_within}
use Rattle.clnp_segment.proofs.Storing.{same_got, there_at}
use Rattle.clnp_segment.proofs.Taking.{more_changed, more_clash, more_full, more_took, more_whole}
use Rattle.clnp_segment.proofs.store.Store.take_more.Goals as goal

pub returns-in-Clash-clause-takes : goal.returns-in-Clash-clause-takes
returns-in-Clash-clause-takes c =
    let there : slice_get c.args.self.now.held c.args.place ≡ Some c.index.result.now = there_at _ _ c.args.place c.index.result.now c.self.view_is c.requires.place c.index.ensures in
    more_clash c.args.self.now (incoming_of c.args.incoming.now) c.args.place c.index.result.now (segment_of c.segment-segment.result) c.withdraw.new.self there c.segment-segment.ensures c.in-Clash.ensures
    c.withdraw.ensures.rest

pub whole-requires-clause-filled : goal.whole-requires-clause-filled
whole-requires-clause-filled c =
    let there : slice_get c.args.self.now.held c.args.place ≡ Some c.index.result.now = there_at _ _ c.args.place c.index.result.now c.self.view_is c.requires.place c.index.ensures in
    let same : c.index.result.now ≡ c.withdraw-unit.result = same_got c.args.self.now.held c.args.place c.index.result.now c.withdraw-unit.result there c.withdraw-unit.ensures.unit in
    subst (λ (u : Partial). Filled (with_segment u.held (segment_of c.segment-segment.result))) same c.in-Whole.ensures.2

pub returns-in_ok-whole-in-Whole-clause-takes : goal.returns-in_ok-whole-in-Whole-clause-takes
returns-in_ok-whole-in-Whole-clause-takes c =
    let segment = segment_of c.segment-segment.result in
    let there : slice_get c.args.self.now.held c.args.place ≡ Some c.index.result.now = there_at _ _ c.args.place c.index.result.now c.self.view_is c.requires.place c.index.ensures in
    let same : c.index.result.now ≡ c.withdraw-unit.result = same_got c.args.self.now.held c.args.place c.index.result.now c.withdraw-unit.result there c.withdraw-unit.ensures.unit in
    let judged : Judges c.withdraw-unit.result.held segment verdict.Whole = subst (λ (u : Partial). Judges u.held segment verdict.Whole) same c.in-Whole.ensures in
    more_whole c.args.self.now (incoming_of c.args.incoming.now) c.args.place c.withdraw-unit.result segment c.in_ok-whole-in-Whole.field-0 _ c.withdraw-unit.ensures.unit c.segment-segment.ensures judged
    c.in_ok-whole-in-Whole.ensures c.withdraw-unit.ensures.rest

pub returns-in-Fresh-clause-takes : goal.returns-in-Fresh-clause-takes
returns-in-Fresh-clause-takes c =
    let old = c.args.self.now in
    let there : slice_get c.args.self.now.held c.args.place ≡ Some c.index.result.now = there_at _ _ c.args.place c.index.result.now c.self.view_is c.requires.place c.index.ensures in
    let room : old.octets < octets_held old.held + c.in-Fresh.fresh =
    omega (arith, c.if-self-fresh.true, ap (λ (s : Holding). s.octets) c.self.view_is, ap (λ (s : Holding). octets_held s.held) c.self.view_is, c.self.invariant.0.octets, c.self.invariant.1) in
    more_full old (incoming_of c.args.incoming.now) c.args.place c.index.result.now (segment_of c.segment-segment.result) c.in-Fresh.fresh _ there c.segment-segment.ensures c.in-Fresh.ensures room refl

pub set-requires : goal.set-requires
set-requires c =
    due_within c.self.inside.units c.self.inside.held.items c.self.inside.due c.args.place c.self.invariant.2
    (omega (arith, c.requires.place, ap (λ (s : Holding). length s.held) c.self.view_is))

pub invariant_of-self-in-Fresh-2 : goal.invariant_of-self-in-Fresh-2
invariant_of-self-in-Fresh-2 c =
    let room : octets_held c.self.inside.held.items + c.in-Fresh.fresh ≤ c.self.inside.octets = omega (arith, c.if-self-fresh.false, c.self.invariant.0.octets, c.self.invariant.1) in
    let all = more_changed _ c.args.self.now c.args.place c.index.result.now c.index_mut-unit.result.now c.add.new.self (segment_of c.segment-segment.result) c.in-Fresh.fresh c.args.incoming.now.left c.self.view_is
    c.requires.place c.index.ensures c.index_mut-unit.ensures.value c.in-Fresh.ensures room c.in_ok-add-in-Fresh-2.ensures.ok c.self.invariant.0 in
    let due : AreDeadlines c.self.inside.units (slice_set c.self.inside.held.items c.args.place c.add.new.self) c.set.new.self =
    changed_due c.self.inside.units c.self.inside.held.items c.args.place c.add.new.self (Some c.deadline.result) c.self.inside.due c.set.new.self
    c.self.invariant.2 (ap Some c.deadline.ensures) c.set.ensures in
    (all.0, ap (λ (n : ℕ). n + c.in-Fresh.fresh) c.self.invariant.1 ∙ all.1, due)

pub returns-in_ok-add-in-Fresh-2-clause-within : goal.returns-in_ok-add-in-Fresh-2-clause-within
returns-in_ok-add-in-Fresh-2-clause-within c =
    let room : octets_held c.self.inside.held.items + c.in-Fresh.fresh ≤ c.self.inside.octets = omega (arith, c.if-self-fresh.false, c.self.invariant.0.octets, c.self.invariant.1) in
    let all = more_changed _ c.args.self.now c.args.place c.index.result.now c.index_mut-unit.result.now c.add.new.self (segment_of c.segment-segment.result) c.in-Fresh.fresh c.args.incoming.now.left c.self.view_is
    c.requires.place c.index.ensures c.index_mut-unit.ensures.value c.in-Fresh.ensures room c.in_ok-add-in-Fresh-2.ensures.ok c.self.invariant.0 in
    all.0

pub returns-in_ok-add-in-Fresh-2-clause-takes : goal.returns-in_ok-add-in-Fresh-2-clause-takes
returns-in_ok-add-in-Fresh-2-clause-takes c =
    let room : octets_held c.self.inside.held.items + c.in-Fresh.fresh ≤ c.self.inside.octets = omega (arith, c.if-self-fresh.false, c.self.invariant.0.octets, c.self.invariant.1) in
    more_took _ c.args.self.now c.args.place c.index.result.now c.index_mut-unit.result.now c.add.new.self (segment_of c.segment-segment.result) c.in-Fresh.fresh c.args.incoming.now.left c.self.view_is
    c.requires.place c.index.ensures c.index_mut-unit.ensures.value c.in-Fresh.ensures room c.in_ok-add-in-Fresh-2.ensures.ok (incoming_of c.args.incoming.now) c.segment-segment.ensures refl
