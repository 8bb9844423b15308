use Rattle.std.proofs.Common.{◌∙◌}
use Rattle.osi_base.specs.Calls.{Choose}
use Rattle.clnp_system.specs.Tables.{rows_tables}
use Rattle.law_clnp_step.proofs.Kept.{stays_sound}
use Rattle.clnp_net.proofs.Parts.{arrived, network_of}
use Rattle.clnp_net.proofs.net.ClnpNet.choose_pick.Goals as goal

pub invariant_of-self-2 : goal.invariant_of-self-2
invariant_of-self-2 g c = λ _.
    stays_sound g.C.Carrier.link g.C.Carrier.steps g.met.C.Carrier.keeps g.met.C.Carrier.given rows_tables
    (network_of c.self.inside.link c.self.inside.systems c.self.inside.floating c.self.inside.waiting.items c.self.inside.strays c.self.inside.life) (Choose c.args.pick c.args.system c.in_ok-answer.answer) _ (c.self.invariant c.in_ok-go_on.ensures) (
      c.self.invariant c.in_ok-go_on.ensures,
      arrived g.C.Carrier.link g.C.Carrier.steps
          (network_of c.self.inside.link c.self.inside.systems c.self.inside.floating c.self.inside.waiting.items c.self.inside.strays c.self.inside.life) (Choose c.args.pick c.args.system c.in_ok-answer.answer) c.now-now.result c.strays_after-self-inside.result
          c.choose.new.self c.in_ok-handle_waiting.ensures.ups c.in_ok-handle_waiting.ensures.mid c.handle_waiting.new.link c.handle_waiting.new.systems c.handle_waiting.new.waiting.items c.len-before.result
          c.now-now.ensures (c.len-before.ensures ∙ c.self.inside.waiting.ok.0) c.in_ok-answer.ensures.steps c.in_ok-handle_waiting.ensures.gathers c.in_ok-handle_waiting.ensures.handles (rw (← c.honest.ensures) c.strays_after-self-inside.ensures),
    )

pub returns : goal.returns
returns g c = rw (← c.self.view_is) (
  c.self.invariant c.in_ok-go_on.ensures,
  arrived g.C.Carrier.link g.C.Carrier.steps
      (network_of c.self.inside.link c.self.inside.systems c.self.inside.floating c.self.inside.waiting.items c.self.inside.strays c.self.inside.life) (Choose c.args.pick c.args.system c.in_ok-answer.answer) c.now-now.result c.strays_after-self-inside.result
      c.choose.new.self c.in_ok-handle_waiting.ensures.ups c.in_ok-handle_waiting.ensures.mid c.handle_waiting.new.link c.handle_waiting.new.systems c.handle_waiting.new.waiting.items c.len-before.result
      c.now-now.ensures (c.len-before.ensures ∙ c.self.inside.waiting.ok.0) c.in_ok-answer.ensures.steps c.in_ok-handle_waiting.ensures.gathers c.in_ok-handle_waiting.ensures.handles (rw (← c.honest.ensures) c.strays_after-self-inside.ensures),
)
