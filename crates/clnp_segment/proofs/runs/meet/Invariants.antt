use Rattle.std.proofs.Common.{◌≡◌, ◌-◌, length}
use Rattle.clnp_segment.specs.declared.runs.Run.{Run}
use Rattle.clnp_segment.specs.steps.Spans.{IsFirst, IsMeeting}
use Rattle.clnp_segment.proofs.runs.meet.Given as goal

abbrev pub invariant-loop-last : goal.invariant-loop-last
invariant-loop-last l = record {
  is_first : IsFirst l.runs.items l.at l.first;
  met : (r : Run) → r.start ≡ l.at → length r.octets ≡ l.count → IsMeeting l.runs.items r l.first l.last l.start l.end l.held;
}

abbrev pub decreases-loop-last : goal.decreases-loop-last
decreases-loop-last l = length l.runs.items - l.last
