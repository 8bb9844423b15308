use Rattle.std.proofs.Common.{◌<◌, sym, subst}
use Rattle.osi_base.specs.Calls.{Tick}
use Rattle.inactive_step.specs.Network.{Inactive}
use Rattle.inactive_step.proofs.Kept.{stays_sound}
use Rattle.inactive_net.proofs.Calls.{network_of, ticked}
use Rattle.inactive_net.proofs.net.InactiveNet.tick_once.Goals as goal

pub invariant_of-self-2 : goal.invariant_of-self-2
invariant_of-self-2 g c = λ _.
    stays_sound g.C.Carrier.link g.C.Carrier.steps g.met.C.Carrier.keeps (network_of c.self.inside.link c.self.inside.rows c.self.inside.floating c.self.inside.waiting.items c.self.inside.strays) Tick _ (c.self.invariant c.in_ok-go_on.ensures) (
      (c.self.invariant c.in_ok-go_on.ensures, subst (λ (n : Inactive _). (g.C.Carrier.link n.link).clock < 4000000000) (sym c.self.view_is) c.requires),
      ticked g.C.Carrier.link g.C.Carrier.steps (network_of c.self.inside.link c.self.inside.rows c.self.inside.floating c.self.inside.waiting.items c.self.inside.strays) c.now-now.result c.longest.result c.tick.new.self c.read_all.new.link c.read_all.new.waiting.items c.drop_older.new.self
          c.now-now.ensures c.in_ok-tick.ensures.link.clock c.longest.ensures c.in_ok-tick.ensures.steps c.in_ok-read_all.ensures c.drop_older.ensures,
    )

pub returns : goal.returns
returns g c = rw (← c.self.view_is) (
  (c.self.invariant c.in_ok-go_on.ensures, subst (λ (n : Inactive _). (g.C.Carrier.link n.link).clock < 4000000000) (sym c.self.view_is) c.requires),
  ticked g.C.Carrier.link g.C.Carrier.steps (network_of c.self.inside.link c.self.inside.rows c.self.inside.floating c.self.inside.waiting.items c.self.inside.strays) c.now-now.result c.longest.result c.tick.new.self c.read_all.new.link c.read_all.new.waiting.items c.drop_older.new.self
      c.now-now.ensures c.in_ok-tick.ensures.link.clock c.longest.ensures c.in_ok-tick.ensures.steps c.in_ok-read_all.ensures c.drop_older.ensures,
)
