use Rattle.std.proofs.Common.{rules, ◌≡◌, ◌++◌, ◌∷◌, [], List, refl, subst, sym}
use Rattle.tp4_number.specs.Number.{wire}
use Rattle.tp4_world.specs.steps.Parts.{HearsEach, world_of}
use Rattle.tp4_world.proofs.Going.{Going, going_next, going_over}
use Rattle.tp4_world.proofs.arrivals.hear_all.Goals as goal

pub loop-arrival-preserved : goal.loop-arrival-preserved
loop-arrival-preserved g c = let p = c.in-Some.ensures in
    let e : c.loop-arrival.transport.units.items ≡ c.in-Some.arrival ∷ c.pop_front.new.self.items = search rules in
    let t = c.in_ok-hear.ensures.hears in
    let mid = world_of c.loop-arrival.carrier c.loop-arrival.transport.entities.items c.loop-arrival.transport.ends in
    let new = world_of c.hear.new.carrier c.hear.new.transport.entities.items c.hear.new.transport.ends in (
      subst (λ (us : List _). Going (HearsEach g.C.Carrier.link g.C.Carrier.steps wire) (world_of c.args.carrier.now c.args.transport.now.entities.items c.args.transport.now.ends)
          c.args.transport.now.units.items c.args.events.now.items new c.hear.new.events.items us) (sym c.in_ok-hear.ensures.others)
          (going_next (HearsEach g.C.Carrier.link g.C.Carrier.steps wire) (world_of c.args.carrier.now c.args.transport.now.entities.items c.args.transport.now.ends) c.args.transport.now.units.items c.args.events.now.items
          mid c.loop-arrival.events.items c.loop-arrival.transport.units.items new c.hear.new.events.items t.made c.pop_front.new.self.items c.loop-arrival.invariant.0 t.added
          (λ rest last h. subst (λ (us : List _). HearsEach g.C.Carrier.link g.C.Carrier.steps wire mid us (t.made ++ rest) last) (sym e) (new, t.made, rest, t.are, h, refl))),
      c.in_ok-hear.ensures.clock,
      c.in_ok-hear.ensures.behind,
      c.in_ok-hear.ensures.later,
    )

pub returns-clause-hears : goal.returns-clause-hears
returns-clause-hears g c = let p = c.pop_front.ensures in let d = c.in_default in
    let e : c.loop-arrival.transport.units.items ≡ [] = search rules in
    going_over (HearsEach g.C.Carrier.link g.C.Carrier.steps wire) (world_of c.args.carrier.now c.args.transport.now.entities.items c.args.transport.now.ends) c.args.transport.now.units.items c.args.events.now.items
    (world_of c.loop-arrival.carrier c.loop-arrival.transport.entities.items c.loop-arrival.transport.ends) c.loop-arrival.events.items c.loop-arrival.transport.units.items c.loop-arrival.invariant.0 e (refl, refl)
