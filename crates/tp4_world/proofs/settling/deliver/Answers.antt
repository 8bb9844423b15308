use Rattle.osi_base.specs.Calls.{Choose}
use Rattle.net_world.specs.Told.{picked_event}
use Rattle.std.proofs.Common.{◌∙◌, ◌++◌, ◌∷◌, [], ap}
use Rattle.script_journal.specs.declared.event.Event.{Event}
use Rattle.tp4_number.specs.Number.{wire}
use Rattle.tp4_world.proofs.Heard.{arrives}
use Rattle.tp4_world.proofs.settling.deliver.Goals as goal

pub returns-clause-delivers : goal.returns-clause-delivers
returns-clause-delivers g c =
    arrives g.C.Carrier.link g.C.Carrier.steps wire c.args.carrier.now c.choose.new.self c.hear_waiting.new.carrier c.args.transport.now.entities.items c.hear_waiting.new.transport.entities.items
    c.args.transport.now.ends c.hear_waiting.new.transport.ends (Choose c.args.number c.args.system c.in_ok-answer.answer) (picked_event c.args.number c.args.system c.in_ok-answer.answer)
    c.args.events.now.items c.push.new.self.items c.hear_waiting.new.events.items c.in_ok-answer.ensures.steps
    (c.in_ok-push.ensures.items ∙ ap (λ (e : Event). c.args.events.now.items ++ e ∷ []) c.picked_event.ensures) c.in_ok-hear_waiting.ensures.hears
