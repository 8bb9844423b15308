use Rattle.std.proofs.Common.{◌∙◌, Bool, ap, subst, sym, arith}
use Rattle.std.specs.List.{position}
use Rattle.tp4_number.specs.Number.{wire}
use Rattle.tp4_world.specs.World.{is_of}
use Rattle.tp4_world.specs.steps.Parts.{Tells, TicksOnce, world_of}
use Rattle.tp4_world.proofs.Entities.{listed_place, place_kept}
use Rattle.tp4_world.proofs.Ticked.{tick_more, tick_over}
use Rattle.tp4_world.proofs.ticking.tick_system.Goals as goal

pub unreachable-requires : goal.unreachable-requires
unreachable-requires g c =
    listed_place c.args.transport.now.entities.items c.args.system c.requires.listed
    (ap (position (is_of c.args.system)) (sym c.deref.ensures.value) ∙ sym c.place_of.ensures ∙ c.in_default.is)

pub returns-clause-ticks : goal.returns-clause-ticks
returns-clause-ticks g c =
    let mid = world_of c.loop.carrier c.loop.transport.entities.items c.loop.transport.ends in
    let new = world_of c.tick_one.new.carrier c.tick_one.new.transport.entities.items c.tick_one.new.transport.ends in
    tick_over g.C.Carrier.link g.C.Carrier.steps wire c.args.system (world_of c.args.carrier.now c.args.transport.now.entities.items c.args.transport.now.ends) c.args.events.now.items
    mid c.loop.events.items new c.tick_one.new.events.items c.loop.invariant.0
    (subst (λ (b : Bool). Tells c.loop.events.items c.tick_one.new.events.items (λ made. TicksOnce g.C.Carrier.link g.C.Carrier.steps wire c.args.system mid b made new)) c.if-branch.false c.in_ok-tick_one.ensures.ticks)

pub loop-preserved : goal.loop-preserved
loop-preserved g c =
    let mid = world_of c.loop.carrier c.loop.transport.entities.items c.loop.transport.ends in
    let new = world_of c.tick_one.new.carrier c.tick_one.new.transport.entities.items c.tick_one.new.transport.ends in (
      tick_more g.C.Carrier.link g.C.Carrier.steps wire c.args.system (world_of c.args.carrier.now c.args.transport.now.entities.items c.args.transport.now.ends) c.args.events.now.items
          mid c.loop.events.items new c.tick_one.new.events.items c.loop.invariant.0
          (subst (λ (b : Bool). Tells c.loop.events.items c.tick_one.new.events.items (λ made. TicksOnce g.C.Carrier.link g.C.Carrier.steps wire c.args.system mid b made new)) c.if-branch.true c.in_ok-tick_one.ensures.ticks),
      c.in_ok-tick_one.ensures.clock,
      c.in_ok-tick_one.ensures.behind,
      c.in_ok-tick_one.ensures.systems ∙ c.loop.invariant.3,
      c.in_ok-tick_one.ensures.from,
      place_kept c.loop.transport.entities.items c.tick_one.new.transport.entities.items c.args.system c.in-Some.place c.in_ok-tick_one.ensures.systems c.loop.invariant.5,
      λ other later. c.in_ok-tick_one.ensures.kept other (c.loop.invariant.6 other later),
    )

pub loop-smaller : goal.loop-smaller
loop-smaller g c = let fewer = c.in_ok-tick_one.ensures.fewer c.if-branch.true in omega (arith, fewer)
