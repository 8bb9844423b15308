use Rattle.std.proofs.Common.{◌≡◌}
use Rattle.std.specs.Prelude.{slice_range}
use Rattle.std.specs.List.{All}
use Rattle.clnp_segment.specs.declared.runs.Run.{Run}
use Rattle.clnp_segment.specs.steps.Spans.{Agree}
use Rattle.clnp_segment.proofs.runs.any_differs.Given as goal

abbrev pub invariant-loop-place : goal.invariant-loop-place
invariant-loop-place l = (r : Run) → r.start ≡ l.at → r.octets ≡ l.octets → All (Agree r) (slice_range l.runs.items l.first l.place)
