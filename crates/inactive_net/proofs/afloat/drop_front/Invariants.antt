use Rattle.std.proofs.Common.{◌≡◌, length}
use Rattle.std.specs.Prelude.{filter}
use Rattle.osi_base.specs.Floated.{is_young, IsOrdered}
use Rattle.inactive_net.proofs.afloat.drop_front.Given as goal

abbrev pub invariant-loop-front : goal.invariant-loop-front
invariant-loop-front l = record {
  same : filter (is_young l.now l.age) l.entries.items ≡ filter (is_young l.now l.age) l.initial.entries.items;
  ordered : IsOrdered l.entries.items;
}

abbrev pub decreases-loop-front : goal.decreases-loop-front
decreases-loop-front l = length l.entries.items
