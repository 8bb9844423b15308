use Rattle.std.proofs.Common.{Bool, refl, subst}
use Rattle.tp4_relay.specs.Allowed.{AreAllowed}
use Rattle.tp4_relay.specs.Service.{Tells}
use Rattle.tp4_relay.specs.steps.Serving.{ServedWay}
use Rattle.tp4_relay.specs.steps.Tables.{kept_of}
use Rattle.tp4_relay.proofs.Balancing.{not_open, or_else, or_then}
use Rattle.tp4_relay.proofs.Placed.{on_err}
use Rattle.tp4_relay.proofs.Served.{way_closed, way_served, way_submitted}
use Rattle.tp4_relay.proofs.Submitting.{credit_stays, place_stays}
use Rattle.tp4_relay.proofs.serving.serve_way.Goals as goal

pub balance-requires-clause-credit : goal.balance-requires-clause-credit
balance-requires-clause-credit g c = let t = c.in_ok-submitted-in-Open.ensures.told in credit_stays (kept_of c.args.table.now) (kept_of c.submit.new.table) t.0 (t.2).last_is c.requires.credit

pub balance-requires-clause-place : goal.balance-requires-clause-place
balance-requires-clause-place g c = let t = c.in_ok-submitted-in-Open.ensures.told in place_stays (kept_of c.args.table.now) (kept_of c.submit.new.table) t.0 c.args.place (t.2).last_is c.requires.place

pub returns-in_err-balanced-in-Open-clause-broken : goal.returns-in_err-balanced-in-Open-clause-broken
returns-in_err-balanced-in-Open-clause-broken g c =
    on_err c.from_residual-in_err-balanced-in-Open.result (Tells c.args.events.now.items c.balance.new.events.items (AreAllowed (kept_of c.args.table.now)))
    (way_submitted _ _ _ _ _ g.met.S.Service.laws (kept_of c.args.table.now) _ c.args.place c.args.heading _ _ _ _ _ _ c.in_ok-submitted-in-Open.ensures.told c.in_err-balanced-in-Open.ensures.broken)

pub returns-then-submitted-clause-told : goal.returns-then-submitted-clause-told
returns-then-submitted-clause-told g c =
    subst (λ (b : Bool). Tells c.args.events.now.items c.balance.new.events.items (λ made. ServedWay g.S.Service.connects g.S.Service.calls c.args.service.now (kept_of c.args.table.now) c.args.place c.args.heading b made c.balance.new.service (kept_of c.balance.new.table)))
    (or_then c.in_ok-submitted-in-Open.submitted c.in_ok-balanced-in-Open.balanced c.in_ok-submitted-in-Open.submitted c.if-submitted.true c.if-submitted.true)
    (way_served _ _ _ _ _ g.met.S.Service.laws (kept_of c.args.table.now) (kept_of c.submit.new.table) (kept_of c.balance.new.table) c.args.place c.args.heading c.in_ok-submitted-in-Open.submitted c.in_ok-balanced-in-Open.balanced c.args.service.now c.submit.new.service c.balance.new.service
    c.args.events.now.items c.submit.new.events.items c.balance.new.events.items c.index.result.now c.index.ensures c.in-Open.is c.in_ok-submitted-in-Open.ensures.told c.in_ok-balanced-in-Open.ensures.told)

pub returns-else-submitted-clause-told : goal.returns-else-submitted-clause-told
returns-else-submitted-clause-told g c =
    subst (λ (b : Bool). Tells c.args.events.now.items c.balance.new.events.items (λ made. ServedWay g.S.Service.connects g.S.Service.calls c.args.service.now (kept_of c.args.table.now) c.args.place c.args.heading b made c.balance.new.service (kept_of c.balance.new.table)))
    (or_else c.in_ok-submitted-in-Open.submitted c.in_ok-balanced-in-Open.balanced c.in_ok-balanced-in-Open.balanced c.if-submitted.false refl)
    (way_served _ _ _ _ _ g.met.S.Service.laws (kept_of c.args.table.now) (kept_of c.submit.new.table) (kept_of c.balance.new.table) c.args.place c.args.heading c.in_ok-submitted-in-Open.submitted c.in_ok-balanced-in-Open.balanced c.args.service.now c.submit.new.service c.balance.new.service
    c.args.events.now.items c.submit.new.events.items c.balance.new.events.items c.index.result.now c.index.ensures c.in-Open.is c.in_ok-submitted-in-Open.ensures.told c.in_ok-balanced-in-Open.ensures.told)

pub returns-in-Begun : goal.returns-in-Begun
returns-in-Begun g c = record {
  tied = c.requires.tied;
  told = way_closed _ _ _ _ _ g.met.S.Service.laws (kept_of c.args.table.now) c.args.place c.args.heading c.args.service.now c.args.events.now.items c.index.result.now c.requires.place c.index.ensures (not_open (c.index.result.now).phase c.in-Begun.is);
  broken = tt;
}
