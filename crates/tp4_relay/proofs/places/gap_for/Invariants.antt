use Rattle.std.proofs.Common.{ℕ, ◌≤◌, ◌<◌, length, get_or}
use Rattle.tp4_relay.proofs.places.gap_for.Given as goal

abbrev pub invariant-loop-at : goal.invariant-loop-at
invariant-loop-at l = record {
  bound : l.at ≤ length l.places;
  above : (k : ℕ) → l.at ≤ k → k < length l.places → l.place ≤ get_or l.places k 0;
}

abbrev pub decreases-loop-at : goal.decreases-loop-at
decreases-loop-at l = l.at
