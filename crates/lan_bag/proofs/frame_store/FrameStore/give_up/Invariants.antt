use Rattle.std.proofs.Common.{◌≡◌, drop, map}
use Rattle.lan_step.specs.Frames.{kept_at}
use Rattle.lan_bag.specs.steps.Wheel.{AreLateAmong}
use Rattle.lan_bag.proofs.frame_store.FrameStore.give_up.Given as goal

abbrev pub invariant-loop-place : goal.invariant-loop-place
invariant-loop-place l = record {
  among : AreLateAmong l.clock l.setup.lans (drop l.place-index l.places) l.self;
  same : map (kept_at l.clock l.setup.lans) l.self ≡ map (kept_at l.clock l.setup.lans) l.initial.self;
}
