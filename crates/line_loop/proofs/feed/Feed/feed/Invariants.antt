use Rattle.std.proofs.Common.{◌≡◌, ◌+◌, ◌≤◌, length}
use Rattle.line_loop.specs.Limits.{most_octets}
use Rattle.line_loop.specs.steps.Feeding.{IsCounted}
use Rattle.line_loop.proofs.Calls.{Within}
use Rattle.line_loop.proofs.feed.Feed.feed.Given as goal

abbrev pub invariant-loop-part : goal.invariant-loop-part
invariant-loop-part g l = record {
  so_far : Within g.M.Machine.meaning l.fn.octets l.rest l.initial.self l.initial.out.items l.self l.out.items;
  counted : IsCounted g.M.Machine.meaning l.self;
  octets : l.self.octets + length l.rest ≡ l.initial.self.octets + length l.fn.octets;
  room : l.initial.self.octets + length l.fn.octets ≤ most_octets;
}

abbrev pub decreases-loop-part : goal.decreases-loop-part
decreases-loop-part g l = length l.rest
