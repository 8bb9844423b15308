use Rattle.std.proofs.Common.{Bool, refl, subst}
use Rattle.tp4_relay.specs.declared.pair.Heading.TheVariants.{On}
use Rattle.tp4_relay.specs.Allowed.{AreAllowed}
use Rattle.tp4_relay.specs.Service.{Tells}
use Rattle.tp4_relay.specs.steps.Serving.{ServedPair}
use Rattle.tp4_relay.specs.steps.Tables.{kept_of}
use Rattle.tp4_relay.proofs.Balancing.{or_else, or_then}
use Rattle.tp4_relay.proofs.Placed.{on_err}
use Rattle.tp4_relay.proofs.Served.{pair_broken, pair_served}
use Rattle.tp4_relay.proofs.Submitting.{credit_stays, place_stays}
use Rattle.tp4_relay.proofs.serving.serve_pair.Goals as goal

pub serve_way-requires-2-clause-credit : goal.serve_way-requires-2-clause-credit
serve_way-requires-2-clause-credit g c = let t = c.in_ok-on.ensures.told in credit_stays (kept_of c.args.table.now) (kept_of c.serve_way.new.table) t.0 (t.2).last_is c.requires.credit

pub serve_way-requires-2-clause-place : goal.serve_way-requires-2-clause-place
serve_way-requires-2-clause-place g c = let t = c.in_ok-on.ensures.told in place_stays (kept_of c.args.table.now) (kept_of c.serve_way.new.table) t.0 c.args.place (t.2).last_is c.requires.place

pub returns-in_err-back-clause-broken : goal.returns-in_err-back-clause-broken
returns-in_err-back-clause-broken g c =
    on_err c.from_residual-in_err-back.result (Tells c.args.events.now.items c.serve_way-2.new.events.items (AreAllowed (kept_of c.args.table.now)))
    (pair_broken _ _ _ _ _ g.met.S.Service.laws (kept_of c.args.table.now) _ c.args.place On _ _ _ _ _ _ c.in_ok-on.ensures.told c.in_err-back.ensures.broken)

pub returns-then-on-clause-told : goal.returns-then-on-clause-told
returns-then-on-clause-told g c =
    subst (λ (b : Bool). Tells c.args.events.now.items c.serve_way-2.new.events.items (λ made. ServedPair g.S.Service.connects g.S.Service.calls c.args.service.now (kept_of c.args.table.now) c.args.place b made c.serve_way-2.new.service (kept_of c.serve_way-2.new.table)))
    (or_then c.in_ok-on.on c.in_ok-back.back c.in_ok-on.on c.if-on.true c.if-on.true)
    (pair_served _ _ _ _ _ g.met.S.Service.laws (kept_of c.args.table.now) (kept_of c.serve_way.new.table) (kept_of c.serve_way-2.new.table) c.args.place c.in_ok-on.on c.in_ok-back.back c.args.service.now c.serve_way.new.service c.serve_way-2.new.service
    c.args.events.now.items c.serve_way.new.events.items c.serve_way-2.new.events.items c.in_ok-on.ensures.told c.in_ok-back.ensures.told)

pub returns-else-on-clause-told : goal.returns-else-on-clause-told
returns-else-on-clause-told g c =
    subst (λ (b : Bool). Tells c.args.events.now.items c.serve_way-2.new.events.items (λ made. ServedPair g.S.Service.connects g.S.Service.calls c.args.service.now (kept_of c.args.table.now) c.args.place b made c.serve_way-2.new.service (kept_of c.serve_way-2.new.table)))
    (or_else c.in_ok-on.on c.in_ok-back.back c.in_ok-back.back c.if-on.false refl)
    (pair_served _ _ _ _ _ g.met.S.Service.laws (kept_of c.args.table.now) (kept_of c.serve_way.new.table) (kept_of c.serve_way-2.new.table) c.args.place c.in_ok-on.on c.in_ok-back.back c.args.service.now c.serve_way.new.service c.serve_way-2.new.service
    c.args.events.now.items c.serve_way.new.events.items c.serve_way-2.new.events.items c.in_ok-on.ensures.told c.in_ok-back.ensures.told)
