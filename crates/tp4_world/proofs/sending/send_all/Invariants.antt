use Rattle.std.proofs.Common.{◌≡◌, drop, List}
use Rattle.script_journal.specs.declared.event.Event.{Event}
use Rattle.tp4_flow.specs.declared.step.Sent.{Sent}
use Rattle.tp4_world.specs.Run.{SendsTpdus}
use Rattle.tp4_world.proofs.Going.{Going}
use Rattle.tp4_world.proofs.sending.send_all.Given as goal

abbrev pub invariant-loop-sent : goal.invariant-loop-sent
invariant-loop-sent g l =
    Going (λ old (sents : List Sent) (made : List Event) new. SendsTpdus g.C.Carrier.link g.C.Carrier.steps old l.system l.own sents made new)
    l.initial.carrier l.tpdus l.initial.events.items l.carrier l.events.items (drop l.sent-index l.tpdus)
    × ((g.C.Carrier.link l.carrier).clock ≡ (g.C.Carrier.link l.initial.carrier).clock)
