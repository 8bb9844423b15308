use Rattle.std.proofs.Common.{◌≡◌, ◌≤◌, Bool, ◌||◌, ◌++◌, subst, sym}
use Rattle.tp4_relay.specs.Allowed.{AreAllowed}
use Rattle.tp4_relay.specs.Kept.{Kept, kept_after}
use Rattle.tp4_relay.specs.Leaving.{ServesAll}
use Rattle.tp4_relay.specs.Service.{Tells}
use Rattle.tp4_relay.specs.steps.Tables.{kept_of}
use Rattle.tp4_relay.proofs.Balancing.{or_else, or_then}
use Rattle.tp4_relay.proofs.Pumped.{pump_allowed, pump_broken, pump_served, pump_stands}
use Rattle.tp4_relay.proofs.Submitting.{credit_stays}
use Rattle.tp4_relay.proofs.relay.Relay.pump.Goals as goal
use Rattle.tp4_relay.proofs.relay.Relay.pump.Goals.{then-reacted, else-reacted}

pub serve_all-requires-clause-credit : goal.serve_all-requires-clause-credit
serve_all-requires-clause-credit g c =
    let t = c.in_ok-reacted.ensures.told in
    credit_stays (kept_of c.self.inside.table) (kept_of c.react_all.new.table) (c.args.events.now.items ++ t.0) (t.2).last_is (subst (λ (k : Kept). (k.rules).credit ≤ 255) (sym c.self.view_is) c.requires.credit)

pub returns-in_err-served-clause-allowed : goal.returns-in_err-served-clause-allowed
returns-in_err-served-clause-allowed g c =
    subst (λ (k : Kept). AreAllowed k c.serve_all.new.events.items) c.self.view_is
    (pump_broken _ _ _ _ _ g.met.S.Service.laws c.args.service.now c.react_all.new.service (kept_of c.self.inside.table) (kept_of c.react_all.new.table) c.args.events.now.items c.react_all.new.events.items c.in_ok-reacted.reacted c.in_ok-reacted.ensures.told c.serve_all.new.events.items c.in_err-served.ensures.broken)

pub returns-clause-stands : goal.returns-clause-stands
returns-clause-stands g c =
    subst (λ (k : Kept). kept_of c.serve_all.new.table ≡ kept_after k c.serve_all.new.events.items) c.self.view_is
    (pump_stands _ _ _ _ _ g.met.S.Service.laws c.args.service.now c.react_all.new.service (kept_of c.self.inside.table) (kept_of c.react_all.new.table) c.args.events.now.items c.react_all.new.events.items c.in_ok-reacted.reacted c.in_ok-reacted.ensures.told c.serve_all.new.service (kept_of c.serve_all.new.table) c.serve_all.new.events.items c.in_ok-served.served c.in_ok-served.ensures.told)

pub returns-clause-served : goal.returns-clause-served
returns-clause-served g c =
    let same : (c.in_ok-reacted.reacted || c.in_ok-served.served) ≡ c.if-reacted.result = elim c.if-reacted.branch [
      | then-reacted w ↦ or_then c.in_ok-reacted.reacted c.in_ok-served.served c.if-reacted.result w.if-reacted.true (let gives = w.result-is in let true_there = w.if-reacted.true in cc)
      | else-reacted w ↦ or_else c.in_ok-reacted.reacted c.in_ok-served.served c.if-reacted.result w.if-reacted.false w.result-is
    ] in
    subst (λ (k : Kept). Tells c.args.events.now.items c.serve_all.new.events.items (λ made. ServesAll g.S.Service.connects g.S.Service.calls c.args.service.now k c.args.events.now.items c.if-reacted.result made c.serve_all.new.service (kept_of c.serve_all.new.table))) c.self.view_is
    (subst (λ (b : Bool). Tells c.args.events.now.items c.serve_all.new.events.items (λ made. ServesAll g.S.Service.connects g.S.Service.calls c.args.service.now (kept_of c.self.inside.table) c.args.events.now.items b made c.serve_all.new.service (kept_of c.serve_all.new.table))) same
    (pump_served _ _ _ _ _ g.met.S.Service.laws c.args.service.now c.react_all.new.service (kept_of c.self.inside.table) (kept_of c.react_all.new.table) c.args.events.now.items c.react_all.new.events.items c.in_ok-reacted.reacted c.in_ok-reacted.ensures.told c.serve_all.new.service (kept_of c.serve_all.new.table) c.serve_all.new.events.items c.in_ok-served.served c.in_ok-served.ensures.told c.in_ok-reacted.ensures.tied.tidy))

pub returns-clause-allowed : goal.returns-clause-allowed
returns-clause-allowed g c = subst (λ (k : Kept). AreAllowed k c.serve_all.new.events.items) c.self.view_is (pump_allowed _ _ _ _ _ g.met.S.Service.laws c.args.service.now c.react_all.new.service (kept_of c.self.inside.table) (kept_of c.react_all.new.table) c.args.events.now.items c.react_all.new.events.items c.in_ok-reacted.reacted c.in_ok-reacted.ensures.told c.serve_all.new.service (kept_of c.serve_all.new.table) c.serve_all.new.events.items c.in_ok-served.served c.in_ok-served.ensures.told)
