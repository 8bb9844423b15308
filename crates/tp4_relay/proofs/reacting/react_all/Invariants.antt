use Rattle.tp4_relay.specs.steps.Serving.{Reacting}
use Rattle.tp4_relay.specs.steps.Tables.{IsTied, kept_of}
use Rattle.tp4_relay.proofs.reacting.react_all.Given as goal

abbrev pub invariant-loop-at : goal.invariant-loop-at
invariant-loop-at g l = record {
  tied : IsTied l.table;
  so_far : Reacting g.S.Service.connects g.S.Service.calls g.S.Service.has g.S.Service.ends l.initial.service (kept_of l.initial.table) l.initial.events.items l.at l.service (kept_of l.table) l.events.items l.done;
}
