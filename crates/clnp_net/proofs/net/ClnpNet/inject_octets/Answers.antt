use Rattle.std.proofs.Common.{◌∙◌, ℕ, List, subst, sym}
use Rattle.osi_base.specs.Calls.{Inject}
use Rattle.osi_base.specs.Floated.{Floated}
use Rattle.clnp_system.specs.Tables.{rows_tables}
use Rattle.law_clnp_step.specs.Sound.{IsSound}
use Rattle.law_clnp_step.specs.Step.{NetStep}
use Rattle.law_clnp_step.proofs.Kept.{stays_sound}
use Rattle.clnp_net.proofs.Parts.{arrived, network_of}
use Rattle.clnp_net.proofs.net.ClnpNet.inject_octets.Goals as goal

pub invariant_of-self-2 : goal.invariant_of-self-2
invariant_of-self-2 g c = λ _.
    subst (λ (f : Floated (List ℕ)). IsSound g.C.Carrier.link (network_of c.handle_waiting.new.link c.handle_waiting.new.systems f c.handle_waiting.new.waiting.items c.strays_after-self-inside.result c.self.inside.life)) (sym c.index_all.ensures)
    (stays_sound g.C.Carrier.link g.C.Carrier.steps g.met.C.Carrier.keeps g.met.C.Carrier.given rows_tables
    (network_of c.self.inside.link c.self.inside.systems c.self.inside.floating c.self.inside.waiting.items c.self.inside.strays c.self.inside.life) (Inject c.args.lan c.args.system c.args.octets.items c.in_ok-answer.answer) _ (c.self.invariant c.in_ok-go_on.ensures) (
      c.self.invariant c.in_ok-go_on.ensures,
      arrived g.C.Carrier.link g.C.Carrier.steps
          (network_of c.self.inside.link c.self.inside.systems c.self.inside.floating c.self.inside.waiting.items c.self.inside.strays c.self.inside.life) (Inject c.args.lan c.args.system c.args.octets.items c.in_ok-answer.answer) c.now-now.result c.strays_after-self-inside.result
          c.inject.new.self c.in_ok-handle_waiting.ensures.ups c.in_ok-handle_waiting.ensures.mid c.handle_waiting.new.link c.handle_waiting.new.systems c.handle_waiting.new.waiting.items c.len-before.result
          c.now-now.ensures (c.len-before.ensures ∙ c.self.inside.waiting.ok.0) c.in_ok-answer.ensures.steps c.in_ok-handle_waiting.ensures.gathers c.in_ok-handle_waiting.ensures.handles (rw (← c.honest.ensures, ← c.index_all.ensures) c.strays_after-self-inside.ensures),
    ))

pub returns : goal.returns
returns g c = rw (← c.self.view_is)
    (subst (λ (f : Floated (List ℕ)). NetStep g.C.Carrier.link g.C.Carrier.steps rows_tables (network_of c.self.inside.link c.self.inside.systems c.self.inside.floating c.self.inside.waiting.items c.self.inside.strays c.self.inside.life) (Inject c.args.lan c.args.system c.args.octets.items c.in_ok-answer.answer)
    (network_of c.handle_waiting.new.link c.handle_waiting.new.systems f c.handle_waiting.new.waiting.items c.strays_after-self-inside.result c.self.inside.life)) (sym c.index_all.ensures) (
      c.self.invariant c.in_ok-go_on.ensures,
      arrived g.C.Carrier.link g.C.Carrier.steps
          (network_of c.self.inside.link c.self.inside.systems c.self.inside.floating c.self.inside.waiting.items c.self.inside.strays c.self.inside.life) (Inject c.args.lan c.args.system c.args.octets.items c.in_ok-answer.answer) c.now-now.result c.strays_after-self-inside.result
          c.inject.new.self c.in_ok-handle_waiting.ensures.ups c.in_ok-handle_waiting.ensures.mid c.handle_waiting.new.link c.handle_waiting.new.systems c.handle_waiting.new.waiting.items c.len-before.result
          c.now-now.ensures (c.len-before.ensures ∙ c.self.inside.waiting.ok.0) c.in_ok-answer.ensures.steps c.in_ok-handle_waiting.ensures.gathers c.in_ok-handle_waiting.ensures.handles (rw (← c.honest.ensures, ← c.index_all.ensures) c.strays_after-self-inside.ensures),
    ))
