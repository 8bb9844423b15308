use Rattle.std.proofs.Common.{map}
use Rattle.std.specs.BTreeSet.{contains}
use Rattle.std.specs.Ordering.{nat_cmp}
use Rattle.lan_step.specs.Frames.{kept_at}
use Rattle.lan_bag.specs.steps.Index.{AreIndexed}
use Rattle.lan_bag.proofs.frame_index.delist_all.Given as goal

abbrev pub invariant-loop-place : goal.invariant-loop-place
invariant-loop-place l = AreIndexed (contains nat_cmp l.initial.codes) (map (kept_at l.clock l.setup.lans) l.frames) → AreIndexed (contains nat_cmp l.codes) (map (kept_at l.clock l.setup.lans) l.frames)
