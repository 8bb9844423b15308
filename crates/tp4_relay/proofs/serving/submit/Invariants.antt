use Rattle.std.specs.List.{slice_get}
use Rattle.tp4_relay.specs.steps.Serving.{Submitting, left_count}
use Rattle.tp4_relay.specs.steps.Tables.{IsTied, kept_of}
use Rattle.tp4_relay.proofs.serving.submit.Given as goal

abbrev pub invariant-loop-call : goal.invariant-loop-call
invariant-loop-call g l = record {
  tied : IsTied l.table;
  so_far : Submitting g.S.Service.connects g.S.Service.calls l.initial.service (kept_of l.initial.table) l.place l.heading l.initial.events.items l.service (kept_of l.table) l.events.items l.done;
}

abbrev pub decreases-loop-call : goal.decreases-loop-call
decreases-loop-call g l = left_count l.heading (slice_get l.table.pairs.items l.place)
