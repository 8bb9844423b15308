use Rattle.std.proofs.Common.{◌≡◌, ◌≤◌, ℕ, List, length, drop, ap, subst, sym, arith}
use Rattle.script_journal.specs.declared.event.Event.{Event}
use Rattle.tp4_relay.specs.Allowed.{AreAllowed}
use Rattle.tp4_relay.specs.Kept.{kept_after}
use Rattle.tp4_relay.specs.Service.{Tells}
use Rattle.tp4_relay.specs.steps.Tables.{AreNotable, kept_of}
use Rattle.tp4_relay.proofs.Placed.{on_err}
use Rattle.tp4_relay.proofs.Served.{asked_broken, asked_told, broken_now, call_bound, call_notable}
use Rattle.tp4_relay.proofs.serving.ask.Goals as goal

pub note_from-requires-clause-bound : goal.note_from-requires-clause-bound
note_from-requires-clause-bound g c =
    let told : c.len-told.result ≡ length c.args.events.now.items = omega (arith, c.len-told.ensures, c.args.events.now.ok.0) in
    let more : length c.args.events.now.items ≤ length c.call.new.events.items = call_bound _ _ _ _ _ g.met.S.Service.laws _ _ _ c.in_ok-done.ensures.calls in
    let seen = ap (λ (es : List Event). length es) c.deref.ensures.value in
    omega (arith, told, more, seen)

pub note_from-requires-clause-notable : goal.note_from-requires-clause-notable
note_from-requires-clause-notable g c =
    let told : c.len-told.result ≡ length c.args.events.now.items = omega (arith, c.len-told.ensures, c.args.events.now.ok.0) in
    subst (λ (n : ℕ). AreNotable (kept_of c.args.table.now) (drop n c.deref.result.now)) (sym told)
    (subst (λ (es : List Event). AreNotable (kept_of c.args.table.now) (drop (length c.args.events.now.items) es)) (sym c.deref.ensures.value)
    (call_notable _ _ _ _ _ g.met.S.Service.laws _ _ _ _ _ _ _ _ c.requires.tied.tidy c.requires.may c.in_ok-done.ensures.calls))

pub returns-in_err-done-clause-broken : goal.returns-in_err-done-clause-broken
returns-in_err-done-clause-broken g c =
    on_err c.from_residual.result (Tells c.args.events.now.items c.call.new.events.items (AreAllowed (kept_of c.args.table.now)))
    (subst (λ (es : List Event). Tells c.args.events.now.items es (AreAllowed (kept_of c.args.table.now))) (sym c.in_err-done.ensures.err) (broken_now c.args.events.now.items (kept_of c.args.table.now)))

pub returns-in_err-note_from-clause-broken : goal.returns-in_err-note_from-clause-broken
returns-in_err-note_from-clause-broken g c =
    on_err c.from_residual-in_err-note_from.result (Tells c.args.events.now.items c.call.new.events.items (AreAllowed (kept_of c.args.table.now)))
    (asked_broken _ _ _ _ _ g.met.S.Service.laws (kept_of c.args.table.now) c.args.end c.args.call _ _ _ _ _ c.requires.may c.in_ok-done.ensures.calls)

pub returns-clause-told : goal.returns-clause-told
returns-clause-told g c =
    let told : c.len-told.result ≡ length c.args.events.now.items = omega (arith, c.len-told.ensures, c.args.events.now.ok.0) in
    asked_told _ _ _ _ _ g.met.S.Service.laws _ _ _ _ _ _ _ _ _ c.requires.may c.in_ok-done.ensures.calls
    (subst (λ (n : ℕ). kept_of c.note_from.new.table ≡ kept_after (kept_of c.args.table.now) (drop n c.call.new.events.items)) told
    (subst (λ (es : List Event). kept_of c.note_from.new.table ≡ kept_after (kept_of c.args.table.now) (drop c.len-told.result es)) c.deref.ensures.value c.in_ok-note_from.ensures.noted))
