use Rattle.std.proofs.Common.{◌∙◌, ◌++◌, ◌∷◌, [], ap}
use Rattle.osi_base.specs.Calls.{Inject}
use Rattle.script_journal.specs.declared.event.Event.{Event}
use Rattle.tp4_number.specs.Number.{wire}
use Rattle.tp4_world.specs.Run.{Injects}
use Rattle.tp4_world.specs.Telling.{inject_event}
use Rattle.tp4_world.specs.steps.Parts.{world_of}
use Rattle.tp4_world.proofs.Heard.{all_made, arrives}
use Rattle.tp4_world.proofs.Housed.{heard_all, still_sound}
use Rattle.tp4_world.proofs.world.TpWorld.inject.Goals as goal

pub returns : goal.returns
returns g c =
    let old = world_of c.self.inside.carrier c.self.inside.transport.entities.items c.self.inside.transport.ends in
    let new = world_of c.hear_waiting.new.carrier c.hear_waiting.new.transport.entities.items c.hear_waiting.new.transport.ends in
    rw (← c.self.view_is) (
      c.in_ok-answer.answer,
      all_made g.C.Carrier.link g.C.Carrier.steps wire c.args.events.now.items c.hear_waiting.new.events.items
          (λ made. Injects g.C.Carrier.link g.C.Carrier.steps wire old c.args.lan c.args.system c.args.octets.items c.in_ok-answer.answer made new) c.requires.none
          (arrives g.C.Carrier.link g.C.Carrier.steps wire c.self.inside.carrier c.inject.new.self c.hear_waiting.new.carrier c.self.inside.transport.entities.items c.hear_waiting.new.transport.entities.items
          c.self.inside.transport.ends c.hear_waiting.new.transport.ends (Inject c.args.lan c.args.system c.args.octets.items c.in_ok-answer.answer) (inject_event c.args.system c.in_ok-answer.answer)
          c.args.events.now.items c.push.new.self.items c.hear_waiting.new.events.items c.in_ok-answer.ensures.steps
          (c.in_ok-push.ensures.items ∙ ap (λ (e : Event). c.args.events.now.items ++ e ∷ []) c.inject_event.ensures) c.in_ok-hear_waiting.ensures.hears),
    )

pub invariant_of-self-2 : goal.invariant_of-self-2
invariant_of-self-2 g c = λ _.
    let sound = c.self.invariant c.in_ok-go_on.ensures in
    let done = c.in_ok-hear_waiting.ensures in
    still_sound g.C.Carrier.link g.C.Carrier.steps c.self.inside.carrier c.hear_waiting.new.carrier c.hear_waiting.new.transport.entities.items c.hear_waiting.new.transport.ends c.now-now.result sound.low c.now-now.ensures done.clock
    done.behind done.later (heard_all g.C.Carrier.link g.C.Carrier.steps wire (world_of done.hears.are.below c.self.inside.transport.entities.items c.self.inside.transport.ends) done.hears.are.ups done.hears.are.later (world_of c.hear_waiting.new.carrier c.hear_waiting.new.transport.entities.items c.hear_waiting.new.transport.ends) done.hears.are.hears sound.housed)
