use Rattle.std.proofs.Common.{◌≡◌, ℕ, ◌+◌, false, true, List, Some, ap, length, refl, ◌∙◌, arith}
use Rattle.clnp_segment.specs.Store.{Holding, Partial}
use Rattle.clnp_segment.specs.steps.Due.{AreDeadlines}
use Rattle.clnp_segment.specs.steps.Incoming.{incoming_of}
use Rattle.clnp_segment.specs.steps.Places.{segment_of}
use Rattle.clnp_segment.proofs.Dues.{added_due, due_room}
use Rattle.clnp_segment.proofs.Taking.{first_added, first_clash, first_full, first_took, first_whole}
use Rattle.clnp_segment.proofs.store.Store.hold_first.Goals as goal

pub returns-in-Clash-clause-takes : goal.returns-in-Clash-clause-takes
returns-in-Clash-clause-takes c =
    first_clash c.args.self.now (incoming_of c.args.incoming.now) c.in_ok-unit.unit.held (segment_of c.segment-segment.result) (ap (λ (u : Partial). u.held) c.in_ok-unit.ensures)
    c.segment-segment.ensures c.in-Clash.ensures

pub returns-in_ok-whole-in-Whole-clause-takes : goal.returns-in_ok-whole-in-Whole-clause-takes
returns-in_ok-whole-in-Whole-clause-takes c =
    first_whole c.args.self.now (incoming_of c.args.incoming.now) c.in_ok-unit.unit.held (segment_of c.segment-segment.result) c.in_ok-whole-in-Whole.field-0
    (ap (λ (u : Partial). u.held) c.in_ok-unit.ensures) c.segment-segment.ensures c.in-Whole.ensures c.in_ok-whole-in-Whole.ensures

pub returns-in-Fresh-clause-takes : goal.returns-in-Fresh-clause-takes
returns-in-Fresh-clause-takes c =
    first_full c.args.self.now (incoming_of c.args.incoming.now) c.in_ok-unit.unit.held (segment_of c.segment-segment.result) c.in-Fresh.fresh
    (ap (λ (u : Partial). u.held) c.in_ok-unit.ensures) c.segment-segment.ensures c.in-Fresh.ensures (λ h. not_true (c.if-not-has_room.ensures.1 h))
  where
    not_true : false ≡ true → ⊥
    not_true e = cc e

pub push-requires : goal.push-requires
push-requires c =
    let is : c.self.inside.held.items ≡ c.args.self.now.held = ap (λ (s : Holding). s.held) c.self.view_is in
    let room = c.if-not-has_room.ensures.0 refl in
    due_room c.self.inside.units c.self.inside.held.items c.self.inside.due c.self.invariant.2
    (omega (arith, room.0, ap (λ (us : List Partial). length us) is, ap (λ (s : Holding). s.units) c.self.view_is))

pub invariant_of-self-in-Fresh-2 : goal.invariant_of-self-in-Fresh-2
invariant_of-self-in-Fresh-2 c =
    let all = first_added _ c.args.self.now (incoming_of c.args.incoming.now) c.in_ok-unit.unit c.add.new.self (segment_of c.segment-segment.result) c.in-Fresh.fresh c.push_back.new.self.items c.self.view_is
    c.in_ok-unit.ensures c.in-Fresh.ensures c.in_ok-add-in-Fresh-2.ensures.ok (c.if-not-has_room.ensures.0 refl) c.in_ok-push_back-in-Fresh-2.ensures.items c.self.invariant.0 c.requires.none (omega (arith, c.requires.segment)) in
    let due : AreDeadlines c.self.inside.units c.push_back.new.self.items c.push.new.self =
    added_due c.self.inside.units c.self.inside.held.items c.push_back.new.self.items c.add.new.self (Some c.deadline-until.result) c.self.inside.due
    c.push.new.self c.in_ok-push_back-in-Fresh-2.ensures.items c.self.invariant.2 (ap Some c.deadline-until.ensures) c.push.ensures in
    (all.0, ap (λ (n : ℕ). n + c.in-Fresh.fresh) c.self.invariant.1 ∙ all.1, due)

pub returns-in_ok-push_back-in-Fresh-2-clause-within : goal.returns-in_ok-push_back-in-Fresh-2-clause-within
returns-in_ok-push_back-in-Fresh-2-clause-within c =
    let all = first_added _ c.args.self.now (incoming_of c.args.incoming.now) c.in_ok-unit.unit c.add.new.self (segment_of c.segment-segment.result) c.in-Fresh.fresh c.push_back.new.self.items c.self.view_is
    c.in_ok-unit.ensures c.in-Fresh.ensures c.in_ok-add-in-Fresh-2.ensures.ok (c.if-not-has_room.ensures.0 refl) c.in_ok-push_back-in-Fresh-2.ensures.items c.self.invariant.0 c.requires.none (omega (arith, c.requires.segment)) in
    all.0

pub returns-in_ok-push_back-in-Fresh-2-clause-takes : goal.returns-in_ok-push_back-in-Fresh-2-clause-takes
returns-in_ok-push_back-in-Fresh-2-clause-takes c =
    first_took _ c.args.self.now (incoming_of c.args.incoming.now) c.in_ok-unit.unit c.add.new.self (segment_of c.segment-segment.result) c.in-Fresh.fresh c.push_back.new.self.items c.self.view_is
    c.in_ok-unit.ensures c.in-Fresh.ensures c.in_ok-add-in-Fresh-2.ensures.ok (c.if-not-has_room.ensures.0 refl) c.in_ok-push_back-in-Fresh-2.ensures.items c.segment-segment.ensures
