use Rattle.std.proofs.Common.{◌∙◌}
use Rattle.tp4_relay.specs.Allowed.{AreAllowed}
use Rattle.tp4_relay.specs.Service.{Tells}
use Rattle.tp4_relay.specs.steps.Tables.{kept_of}
use Rattle.tp4_relay.proofs.Placed.{on_err}
use Rattle.tp4_relay.proofs.Submitting.{first_is_call, turn_end, turn_first, turn_may, turn_none, turn_refused, turn_smaller, turn_taken}
use Rattle.tp4_relay.proofs.Served.{submitted_all, submitting_broken, submitting_none}
use Rattle.tp4_relay.proofs.serving.submit.Goals as goal

pub loop-call-init : goal.loop-call-init
loop-call-init g c = record {
  tied = c.requires.tied;
  so_far = submitting_none _ _ _ _ _ g.met.S.Service.laws _ _ _ _ _ c.requires.open.0 c.requires.open.1 c.requires.open.2;
}

pub ask-requires-clause-call : goal.ask-requires-clause-call
ask-requires-clause-call g c = first_is_call c.in-Some.call _ (turn_first _ _ _ _ _ g.met.S.Service.laws _ _ _ _ _ _ _ _ _ c.loop-call.invariant.so_far c.in_ok-call.field-0 c.in-Some.call c.in-Some.is c.in_ok-call.ensures)

pub ask-requires-clause-may : goal.ask-requires-clause-may
ask-requires-clause-may g c =
    turn_may _ _ _ _ _ g.met.S.Service.laws _ _ _ _ _ _ _ _ _ c.loop-call.invariant.so_far c.loop-call.invariant.tied.tidy c.far_end-end.result c.in-Some.call (c.far_end-end.ensures ∙ turn_end _ _ _ _ _ g.met.S.Service.laws _ _ _ _ _ _ _ _ _ c.loop-call.invariant.so_far c.index.result.now c.index.ensures)
    (turn_first _ _ _ _ _ g.met.S.Service.laws _ _ _ _ _ _ _ _ _ c.loop-call.invariant.so_far c.in_ok-call.field-0 c.in-Some.call c.in-Some.is c.in_ok-call.ensures)

pub returns-in_err-ask-clause-broken : goal.returns-in_err-ask-clause-broken
returns-in_err-ask-clause-broken g c =
    on_err c.from_residual-in_err-ask.result (Tells c.args.events.now.items c.ask.new.events.items (AreAllowed (kept_of c.args.table.now)))
    (submitting_broken _ _ _ _ _ g.met.S.Service.laws (kept_of c.args.table.now) c.args.place c.args.heading c.args.service.now c.args.events.now.items _ _ _ _ _ c.loop-call.invariant.so_far c.in_err-ask.ensures.broken)

pub returns-then-not-branch-clause-told : goal.returns-then-not-branch-clause-told
returns-then-not-branch-clause-told g c =
    turn_refused _ _ _ _ _ g.met.S.Service.laws _ _ _ _ _ _ _ _ _ c.loop-call.invariant.so_far c.ask.new.service (kept_of c.ask.new.table) c.ask.new.events.items c.far_end-end.result c.in-Some.call c.in_ok-ask.field-0 (c.far_end-end.ensures ∙ turn_end _ _ _ _ _ g.met.S.Service.laws _ _ _ _ _ _ _ _ _ c.loop-call.invariant.so_far c.index.result.now c.index.ensures)
    (turn_first _ _ _ _ _ g.met.S.Service.laws _ _ _ _ _ _ _ _ _ c.loop-call.invariant.so_far c.in_ok-call.field-0 c.in-Some.call c.in-Some.is c.in_ok-call.ensures) c.in_ok-ask.ensures.told c.if-not-branch.true

pub loop-call-smaller : goal.loop-call-smaller
loop-call-smaller g c =
    turn_smaller _ _ _ _ _ g.met.S.Service.laws _ _ _ _ _ _ _ _ _ c.loop-call.invariant.so_far c.ask.new.service (kept_of c.ask.new.table) c.ask.new.events.items c.far_end-end.result c.in-Some.call c.in_ok-ask.field-0 (c.far_end-end.ensures ∙ turn_end _ _ _ _ _ g.met.S.Service.laws _ _ _ _ _ _ _ _ _ c.loop-call.invariant.so_far c.index.result.now c.index.ensures)
    (turn_first _ _ _ _ _ g.met.S.Service.laws _ _ _ _ _ _ _ _ _ c.loop-call.invariant.so_far c.in_ok-call.field-0 c.in-Some.call c.in-Some.is c.in_ok-call.ensures) c.in_ok-ask.ensures.told c.loop-call.invariant.tied.tidy c.if-not-branch.false

pub loop-call-preserved : goal.loop-call-preserved
loop-call-preserved g c = record {
  tied = c.in_ok-ask.ensures.tied;
  so_far = turn_taken _ _ _ _ _ g.met.S.Service.laws _ _ _ _ _ _ _ _ _ c.loop-call.invariant.so_far c.ask.new.service (kept_of c.ask.new.table) c.ask.new.events.items c.far_end-end.result c.in-Some.call c.in_ok-ask.field-0 (c.far_end-end.ensures ∙ turn_end _ _ _ _ _ g.met.S.Service.laws _ _ _ _ _ _ _ _ _ c.loop-call.invariant.so_far c.index.result.now c.index.ensures)
      (turn_first _ _ _ _ _ g.met.S.Service.laws _ _ _ _ _ _ _ _ _ c.loop-call.invariant.so_far c.in_ok-call.field-0 c.in-Some.call c.in-Some.is c.in_ok-call.ensures) c.in_ok-ask.ensures.told c.loop-call.invariant.tied.tidy c.if-not-branch.false;
}

pub returns-clause-told : goal.returns-clause-told
returns-clause-told g c =
    submitted_all _ _ _ _ _ g.met.S.Service.laws _ _ _ _ _ _ _ _ _ c.loop-call.invariant.so_far (turn_none _ _ _ _ _ g.met.S.Service.laws _ _ _ _ _ _ _ _ _ c.loop-call.invariant.so_far c.in_ok-call.field-0 c.in_default.is c.in_ok-call.ensures)
