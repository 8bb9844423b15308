use Rattle.std.specs.BTreeSet.{contains}
use Rattle.std.specs.Ordering.{nat_cmp}
use Rattle.lan_bag.specs.steps.Index.{AreIndexedTo}
use Rattle.lan_bag.proofs.frame_index.enlist_all.Given as goal

abbrev pub invariant-loop-place : goal.invariant-loop-place
invariant-loop-place l = AreIndexedTo (contains nat_cmp l.codes) l.place l.frames
