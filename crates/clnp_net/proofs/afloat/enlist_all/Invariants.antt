use Rattle.std.specs.Prelude.{take}
use Rattle.std.specs.BTreeSet.{contains}
use Rattle.std.specs.Ordering.{nat_cmp}
use Rattle.clnp_net.specs.steps.Indexed.{AreIndexed}
use Rattle.clnp_net.proofs.afloat.enlist_all.Given as goal

abbrev pub invariant-loop-place : goal.invariant-loop-place
invariant-loop-place l = AreIndexed (contains nat_cmp l.index) l.first (take l.place l.entries.items)
