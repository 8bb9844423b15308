use Rattle.std.proofs.Common.{◌≤◌, ◌-◌, length}
use Rattle.lan_bag.specs.steps.Openings.{IsClosedTo}
use Rattle.lan_bag.proofs.next_delivery.first_fresh.Given as goal

abbrev pub invariant-loop-place : goal.invariant-loop-place
invariant-loop-place l = record {
  within : l.place ≤ length l.frames;
  before : IsClosedTo l.clock l.setup.lans l.setup.rows l.frames l.place;
}

abbrev pub decreases-loop-place : goal.decreases-loop-place
decreases-loop-place l = length l.frames - l.place
