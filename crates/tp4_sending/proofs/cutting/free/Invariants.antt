use Rattle.std.proofs.Common.{◌≡◌, ◌≤◌, length}
use Rattle.std.specs.List.{sum_by}
use Rattle.tp4_sending.specs.Pieces.{freed_by}
use Rattle.tp4_sending.proofs.cutting.free.Given as goal

abbrev pub invariant-loop-unit : goal.invariant-loop-unit
invariant-loop-unit l = record {
  rest : freed_by l.size l.n l.first l.units.items ≡ freed_by l.size l.n l.fn.first l.fn.units.items;
  low : l.first ≤ l.n;
  octets : l.octets ≡ sum_by length l.units.items;
}

abbrev pub decreases-loop-unit : goal.decreases-loop-unit
decreases-loop-unit l = length l.units.items
