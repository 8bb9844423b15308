use Rattle.std.proofs.Common.{◌≡◌, ◌++◌, replicate, length, None}
use Rattle.lan_bag.specs.steps.Store.{IsStored}
use Rattle.lan_bag.proofs.frame_store.FrameStore.trim.Given as goal

abbrev pub invariant-loop-self : goal.invariant-loop-self
invariant-loop-self l = record {
  stored : IsStored l.self-inside.gone l.self-inside.slots.items l.self-inside.live;
  same : replicate l.self-inside.gone None ++ l.self-inside.slots.items ≡ replicate l.initial.self-inside.gone None ++ l.initial.self-inside.slots.items;
}

abbrev pub decreases-loop-self : goal.decreases-loop-self
decreases-loop-self l = length l.self-inside.slots.items
