use Rattle.std.proofs.Common.{◌∙◌}
use Rattle.osi_base.specs.Calls.{Choose}
use Rattle.inactive_step.proofs.Kept.{stays_sound}
use Rattle.inactive_net.proofs.Calls.{arrived, network_of}
use Rattle.inactive_net.proofs.net.InactiveNet.choose_pick.Goals as goal

pub invariant_of-self-2 : goal.invariant_of-self-2
invariant_of-self-2 g c = λ _.
    stays_sound g.C.Carrier.link g.C.Carrier.steps g.met.C.Carrier.keeps (network_of c.self.inside.link c.self.inside.rows c.self.inside.floating c.self.inside.waiting.items c.self.inside.strays) (Choose c.args.pick c.args.system c.in_ok-answer.answer) _ (c.self.invariant c.in_ok-go_on.ensures) (
      c.self.invariant c.in_ok-go_on.ensures,
      arrived g.C.Carrier.link g.C.Carrier.steps (network_of c.self.inside.link c.self.inside.rows c.self.inside.floating c.self.inside.waiting.items c.self.inside.strays) (Choose c.args.pick c.args.system c.in_ok-answer.answer) c.now-now.result c.strays_after-self-inside.result c.len-before.result
          c.choose.new.self c.read_all.new.link c.read_all.new.waiting.items c.now-now.ensures (c.len-before.ensures ∙ c.self.inside.waiting.ok.0) c.in_ok-answer.ensures.steps c.in_ok-read_all.ensures
          (rw (← c.honest.ensures) c.strays_after-self-inside.ensures),
    )

pub returns : goal.returns
returns g c = rw (← c.self.view_is) (
  c.self.invariant c.in_ok-go_on.ensures,
  arrived g.C.Carrier.link g.C.Carrier.steps (network_of c.self.inside.link c.self.inside.rows c.self.inside.floating c.self.inside.waiting.items c.self.inside.strays) (Choose c.args.pick c.args.system c.in_ok-answer.answer) c.now-now.result c.strays_after-self-inside.result c.len-before.result
      c.choose.new.self c.read_all.new.link c.read_all.new.waiting.items c.now-now.ensures (c.len-before.ensures ∙ c.self.inside.waiting.ok.0) c.in_ok-answer.ensures.steps c.in_ok-read_all.ensures
      (rw (← c.honest.ensures) c.strays_after-self-inside.ensures),
)
