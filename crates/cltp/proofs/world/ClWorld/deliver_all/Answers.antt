use Rattle.std.proofs.Common.{◌≡◌, ◌<◌, ℕ, Some, None, subst, rules}
use Rattle.osi_base.specs.Link.{IsLeastFresh}
use Rattle.script_journal.specs.declared.cause.Settled.TheVariants as settled
use Rattle.cltp.specs.Run.{Tells}
use Rattle.cltp.specs.Systems.{World}
use Rattle.cltp.specs.steps.TakingUp.{SettlesSo}
use Rattle.cltp.proofs.Arrivals.{none_left, one_more, too_many}
use Rattle.cltp.proofs.world.ClWorld.deliver_all.Goals as goal

pub returns-in_default : goal.returns-in_default
returns-in_default g c =
    none_left g.C.Carrier.link g.C.Carrier.steps c.args.self.now c.args.events.now.items c.loop-count.count c.loop-count.self c.loop-count.events.items c.loop-count.invariant
    (subst (λ (w : World _). IsLeastFresh (g.C.Carrier.link w.carrier) None) c.self.view_is (subst (IsLeastFresh (g.C.Carrier.link c.self.inside.carrier)) c.in_default.is c.fresh.ensures))

pub loop-count-preserved : goal.loop-count-preserved
loop-count-preserved g c =
    let low : c.loop-count.count < 65536 = search rules in
    one_more g.C.Carrier.link g.C.Carrier.steps c.args.self.now c.args.events.now.items c.loop-count.count c.loop-count.self c.loop-count.events.items (c.in-Some.number, c.in-Some.system)
    c.in_ok-deliver.field-0 c.deliver.new.self c.deliver.new.events.items c.loop-count.invariant
    (subst (λ (w : World _). IsLeastFresh (g.C.Carrier.link w.carrier) (Some (c.in-Some.number, c.in-Some.system))) c.self.view_is c.in-Some.ensures)
    low c.in_ok-deliver.ensures.taken c.in_ok-deliver.ensures.delivers

pub returns-in_default-fresh : goal.returns-in_default-fresh
returns-in_default-fresh g c =
    let all : c.loop-count.count ≡ 65536 = search rules in
    subst (λ (n : ℕ). Tells c.args.events.now.items c.loop-count.events.items (λ made. SettlesSo g.C.Carrier.link g.C.Carrier.steps c.args.self.now made (settled.Settled n) c.loop-count.self)) all
    (none_left g.C.Carrier.link g.C.Carrier.steps c.args.self.now c.args.events.now.items c.loop-count.count c.loop-count.self c.loop-count.events.items c.loop-count.invariant
    (subst (λ (w : World _). IsLeastFresh (g.C.Carrier.link w.carrier) None) c.self-2.view_is (subst (IsLeastFresh (g.C.Carrier.link c.self-2.inside.carrier)) c.in_default-fresh.is c.fresh-2.ensures)))

pub returns : goal.returns
returns g c =
    let all : c.loop-count.count ≡ 65536 = search rules in
    subst (λ (n : ℕ). Tells c.args.events.now.items c.loop-count.events.items (λ made. SettlesSo g.C.Carrier.link g.C.Carrier.steps c.args.self.now made (settled.Stopped n) c.loop-count.self)) all
    (too_many g.C.Carrier.link g.C.Carrier.steps c.args.self.now c.args.events.now.items c.loop-count.count c.loop-count.self c.loop-count.events.items c.in-Some-fresh.field-0 c.loop-count.invariant
    (subst (λ (w : World _). IsLeastFresh (g.C.Carrier.link w.carrier) (Some c.in-Some-fresh.field-0)) c.self-2.view_is c.in-Some-fresh.ensures) all)
