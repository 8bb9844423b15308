use Rattle.std.proofs.Common.{◌≡◌, ◌<◌, ℕ, subst, rules}
use Rattle.osi_base.specs.Link.{IsLeastFresh}
use Rattle.tp4_number.specs.Number.{wire}
use Rattle.tp4_world.specs.steps.Parts.{world_of}
use Rattle.tp4_world.proofs.Settled.{settle_many, settle_more, settle_none}
use Rattle.tp4_world.proofs.settling.settle.Goals as goal

pub returns-in_default-clause-settles : goal.returns-in_default-clause-settles
returns-in_default-clause-settles g c =
    settle_none g.C.Carrier.link g.C.Carrier.steps wire (world_of c.args.carrier.now c.args.transport.now.entities.items c.args.transport.now.ends) c.args.events.now.items c.loop-count.count
    (world_of c.loop-count.carrier c.loop-count.transport.entities.items c.loop-count.transport.ends) c.loop-count.events.items c.loop-count.invariant.0
    (subst (IsLeastFresh (g.C.Carrier.link c.loop-count.carrier)) c.in_default.is c.fresh.ensures)

pub loop-count-preserved : goal.loop-count-preserved
loop-count-preserved g c =
    let low : c.loop-count.count < 65536 = search rules in (
      settle_more g.C.Carrier.link g.C.Carrier.steps wire (world_of c.args.carrier.now c.args.transport.now.entities.items c.args.transport.now.ends) c.args.events.now.items c.loop-count.count
          (world_of c.loop-count.carrier c.loop-count.transport.entities.items c.loop-count.transport.ends) c.loop-count.events.items (c.in-Some.number, c.in-Some.system) c.in_ok-deliver.field-0
          (world_of c.deliver.new.carrier c.deliver.new.transport.entities.items c.deliver.new.transport.ends) c.deliver.new.events.items c.loop-count.invariant.0 c.in-Some.ensures low
          c.in_ok-deliver.ensures.taken c.in_ok-deliver.ensures.delivers,
      c.in_ok-deliver.ensures.clock,
      c.in_ok-deliver.ensures.behind,
      c.in_ok-deliver.ensures.later,
    )

pub returns-in-Some-fresh-clause-settles : goal.returns-in-Some-fresh-clause-settles
returns-in-Some-fresh-clause-settles g c =
    let all : c.loop-count.count ≡ 65536 = search rules in
    subst (λ (n : ℕ). Rattle.tp4_world.specs.steps.Parts.Tells c.args.events.now.items c.loop-count.events.items (λ made. Rattle.tp4_world.specs.steps.Parts.SettlesSo g.C.Carrier.link g.C.Carrier.steps wire
    (world_of c.args.carrier.now c.args.transport.now.entities.items c.args.transport.now.ends) made (Rattle.script_journal.specs.declared.cause.Settled.TheVariants.Stopped n)
    (world_of c.loop-count.carrier c.loop-count.transport.entities.items c.loop-count.transport.ends))) all
    (settle_many g.C.Carrier.link g.C.Carrier.steps wire (world_of c.args.carrier.now c.args.transport.now.entities.items c.args.transport.now.ends) c.args.events.now.items c.loop-count.count
    (world_of c.loop-count.carrier c.loop-count.transport.entities.items c.loop-count.transport.ends) c.loop-count.events.items c.in-Some-fresh.field-0 c.loop-count.invariant.0 c.in-Some-fresh.ensures all)

pub returns-in-None-clause-settles : goal.returns-in-None-clause-settles
returns-in-None-clause-settles g c =
    let all : c.loop-count.count ≡ 65536 = search rules in
    subst (λ (n : ℕ). Rattle.tp4_world.specs.steps.Parts.Tells c.args.events.now.items c.loop-count.events.items (λ made. Rattle.tp4_world.specs.steps.Parts.SettlesSo g.C.Carrier.link g.C.Carrier.steps wire
    (world_of c.args.carrier.now c.args.transport.now.entities.items c.args.transport.now.ends) made (Rattle.script_journal.specs.declared.cause.Settled.TheVariants.Settled n)
    (world_of c.loop-count.carrier c.loop-count.transport.entities.items c.loop-count.transport.ends))) all
    (settle_none g.C.Carrier.link g.C.Carrier.steps wire (world_of c.args.carrier.now c.args.transport.now.entities.items c.args.transport.now.ends) c.args.events.now.items c.loop-count.count
    (world_of c.loop-count.carrier c.loop-count.transport.entities.items c.loop-count.transport.ends) c.loop-count.events.items c.loop-count.invariant.0
    (subst (IsLeastFresh (g.C.Carrier.link c.loop-count.carrier)) c.in-None.is c.fresh-2.ensures))
