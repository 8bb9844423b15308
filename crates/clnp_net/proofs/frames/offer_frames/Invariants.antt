use Rattle.std.proofs.Common.{◌≡◌, ◌++◌}
use Rattle.law_clnp_step.specs.Handling.{OffersFrames}
use Rattle.clnp_net.specs.steps.Telling.{Tells}
use Rattle.clnp_net.proofs.frames.offer_frames.Given as goal

abbrev pub invariant-loop-frame : goal.invariant-loop-frame
invariant-loop-frame g l =
    (l.yielded ++ l.frame-iterator.rest.items ≡ l.fn.frames.items)
    × Tells l.initial.waiting.items l.waiting.items (λ told. OffersFrames g.C.Carrier.link g.C.Carrier.steps l.initial.link l.system l.yielded l.link told)
