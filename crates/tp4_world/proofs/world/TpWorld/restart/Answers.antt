use Rattle.std.proofs.Common.{List, subst, sym}
use Rattle.tp4_world.proofs.Asked.{restarted_world}
use Rattle.tp4_world.specs.declared.place.EndAt.{EndAt}
use Rattle.tp4_world.specs.declared.place.Placed.{Placed}
use Rattle.tp4_world.specs.steps.Parts.{AreHoused}
use Rattle.tp4_world.proofs.Housed.{still_sound}
use Rattle.tp4_world.proofs.SomeRun.{ends_stay}
use Rattle.tp4_world.proofs.world.TpWorld.restart.Goals as goal

pub returns : goal.returns
returns g c =
    let done = c.in_ok-restart.ensures in
    rw (← c.self.view_is) (
      done.restarts.0,
      done.restarts.1,
      done.restarts.2,
      restarted_world g.C.Carrier.link g.C.Carrier.steps c.self.inside.carrier c.self.inside.transport.entities.items c.restart.new.transport.entities.items c.self.inside.transport.ends
          c.restart.new.transport.ends c.args.system c.now-now.result done.restarts.0 (sym c.now-now.ensures) done.restarts.3 done.ends,
    )

pub invariant_of-self-2 : goal.invariant_of-self-2
invariant_of-self-2 g c = λ _.
    let sound = c.self.invariant c.in_ok-go_on.ensures in
    let done = c.in_ok-restart.ensures in
    let housed : AreHoused c.restart.new.transport.entities.items c.restart.new.transport.ends =
    subst (λ (ends : List EndAt). AreHoused c.restart.new.transport.entities.items ends) (sym done.ends)
    (subst (λ (placed : List Placed). AreHoused placed c.self.inside.transport.ends) (sym done.restarts.3)
    (ends_stay c.self.inside.transport.entities.items c.args.system _ c.self.inside.transport.ends sound.housed)) in
    still_sound g.C.Carrier.link g.C.Carrier.steps c.self.inside.carrier c.self.inside.carrier c.restart.new.transport.entities.items c.restart.new.transport.ends c.now-now.result sound.low c.now-now.ensures
    (sym c.now-now.ensures) done.behind done.later housed
