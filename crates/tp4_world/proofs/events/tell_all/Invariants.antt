use Rattle.tp4_world.proofs.Leaving.{Left}
use Rattle.tp4_world.proofs.events.tell_all.Given as goal

abbrev pub invariant-loop-one : goal.invariant-loop-one
invariant-loop-one l = Left l.system l.own l.initial.ends l.initial.events.items l.fn.told.items l.ends l.events.items l.one-iterator.rest.items
