use Rattle.std.proofs.Common.{◌∙◌, ◌<◌, ◌≤◌, ℕ, arith, subst, sym}
use Rattle.tp4_world.specs.World.{World}
use Rattle.tp4_world.proofs.Later.{later_next_all}
use Rattle.tp4_number.specs.Number.{wire}
use Rattle.tp4_world.specs.steps.Parts.{world_of}
use Rattle.tp4_world.proofs.Housed.{still_sound, ticked_all}
use Rattle.tp4_world.proofs.world.TpWorld.tick.Goals as goal

pub tick_all-requires-clause-from : goal.tick_all-requires-clause-from
tick_all-requires-clause-from g c =
    later_next_all (g.C.Carrier.link c.self.inside.carrier).clock c.now-now.result c.self.inside.transport.entities.items (c.now-now.ensures ∙ c.in_ok-tick.ensures.link.clock)
    (c.self.invariant c.in_ok-go_on.ensures).later

pub invariant_of-self-2 : goal.invariant_of-self-2
invariant_of-self-2 g c = λ _.
    let sound = c.self.invariant c.in_ok-go_on.ensures in
    let done = c.in_ok-tick_all.ensures in
    let low : (g.C.Carrier.link c.self.inside.carrier).clock < 4000000000 = subst (λ (w : World _). (g.C.Carrier.link w.carrier).clock < 4000000000) (sym c.self.view_is) c.requires.low in
    let next : (g.C.Carrier.link c.tick.new.self).clock ≤ 4000000000 = subst (λ (n : ℕ). n ≤ 4000000000) (sym c.in_ok-tick.ensures.link.clock) (omega (arith, low)) in
    still_sound g.C.Carrier.link g.C.Carrier.steps c.tick.new.self c.tick_all.new.carrier c.tick_all.new.transport.entities.items c.tick_all.new.transport.ends c.now-now.result next c.now-now.ensures done.clock
    done.behind done.later (ticked_all g.C.Carrier.link g.C.Carrier.steps wire (world_of c.take_up.new.carrier c.self.inside.transport.entities.items c.self.inside.transport.ends) c.self.inside.transport.entities.items done.ticks.made (world_of c.tick_all.new.carrier c.tick_all.new.transport.entities.items c.tick_all.new.transport.ends) done.ticks.are sound.housed)
