use Rattle.std.proofs.Common.{Bool, refl, subst}
use Rattle.tp4_relay.specs.Allowed.{AreAllowed}
use Rattle.tp4_relay.specs.Service.{Tells}
use Rattle.tp4_relay.specs.steps.Serving.{Parted}
use Rattle.tp4_relay.specs.steps.Tables.{kept_of}
use Rattle.tp4_relay.proofs.Balancing.{or_else, or_then, parted_by}
use Rattle.tp4_relay.proofs.Placed.{on_err}
use Rattle.tp4_relay.proofs.Served.{asked_then}
use Rattle.tp4_relay.proofs.backlog.part.Goals as goal

pub returns-in_err-other-clause-broken : goal.returns-in_err-other-clause-broken
returns-in_err-other-clause-broken g c =
    on_err c.from_residual-in_err-other.result (Tells c.args.events.now.items c.ask-2.new.events.items (AreAllowed (kept_of c.args.table.now)))
    (asked_then _ _ _ _ _ g.met.S.Service.laws (kept_of c.args.table.now) _ _ _ _ _ _ _ _ _ c.in_ok-one.ensures.told c.in_err-other.ensures.broken)

pub returns-then-one-clause-told : goal.returns-then-one-clause-told
returns-then-one-clause-told g c =
    subst (λ (b : Bool). Tells c.args.events.now.items c.ask-2.new.events.items (λ made. Parted g.S.Service.connects g.S.Service.calls c.args.service.now (kept_of c.args.table.now) c.args.place b made c.ask-2.new.service (kept_of c.ask-2.new.table)))
    (or_then c.in_ok-one.one c.in_ok-other.other c.in_ok-one.one c.if-one.true c.if-one.true)
    (parted_by _ _ _ _ _ g.met.S.Service.laws (kept_of c.args.table.now) (kept_of c.ask.new.table) (kept_of c.ask-2.new.table) c.args.place c.index.result.now c.index-2.result.now c.nothing.result c.nothing-2.result c.in_ok-one.one c.in_ok-other.other c.args.service.now c.ask.new.service c.ask-2.new.service
    c.args.events.now.items c.ask.new.events.items c.ask-2.new.events.items c.requires.place c.index.ensures c.index-2.ensures c.nothing.ensures c.nothing-2.ensures c.in_ok-one.ensures.told c.in_ok-other.ensures.told)

pub returns-else-one-clause-told : goal.returns-else-one-clause-told
returns-else-one-clause-told g c =
    subst (λ (b : Bool). Tells c.args.events.now.items c.ask-2.new.events.items (λ made. Parted g.S.Service.connects g.S.Service.calls c.args.service.now (kept_of c.args.table.now) c.args.place b made c.ask-2.new.service (kept_of c.ask-2.new.table)))
    (or_else c.in_ok-one.one c.in_ok-other.other c.in_ok-other.other c.if-one.false refl)
    (parted_by _ _ _ _ _ g.met.S.Service.laws (kept_of c.args.table.now) (kept_of c.ask.new.table) (kept_of c.ask-2.new.table) c.args.place c.index.result.now c.index-2.result.now c.nothing.result c.nothing-2.result c.in_ok-one.one c.in_ok-other.other c.args.service.now c.ask.new.service c.ask-2.new.service
    c.args.events.now.items c.ask.new.events.items c.ask-2.new.events.items c.requires.place c.index.ensures c.index-2.ensures c.nothing.ensures c.nothing-2.ensures c.in_ok-one.ensures.told c.in_ok-other.ensures.told)
