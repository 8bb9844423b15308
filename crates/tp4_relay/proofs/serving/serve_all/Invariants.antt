use Rattle.tp4_relay.specs.Pairs.{open_places}
use Rattle.tp4_relay.specs.steps.Serving.{ServingEach}
use Rattle.tp4_relay.specs.steps.Tables.{IsTied, kept_of}
use Rattle.tp4_relay.proofs.serving.serve_all.Given as goal

abbrev pub invariant-loop-place : goal.invariant-loop-place
invariant-loop-place g l = record {
  tied : IsTied l.table;
  so_far : ServingEach g.S.Service.connects g.S.Service.calls l.initial.service (kept_of l.initial.table) (open_places l.initial.table.pairs.items) l.initial.events.items l.place-index l.service (kept_of l.table) l.events.items l.done;
}
