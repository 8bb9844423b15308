use Rattle.std.proofs.Common.{◌-◌}
use Rattle.clnp_segment.proofs.Meetings.{IsSearch}
use Rattle.clnp_segment.proofs.runs.first_met.Given as goal

abbrev pub invariant-loop-first : goal.invariant-loop-first
invariant-loop-first l = IsSearch l.runs.items l.at l.first l.past

abbrev pub decreases-loop-first : goal.decreases-loop-first
decreases-loop-first l = l.past - l.first
