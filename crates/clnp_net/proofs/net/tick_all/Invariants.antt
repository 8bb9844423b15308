use Rattle.std.proofs.Common.{◌≡◌, length}
use Rattle.clnp_net.proofs.Parts.{Ticking}
use Rattle.clnp_net.proofs.net.tick_all.Given as goal

abbrev pub invariant-loop-place : goal.invariant-loop-place
invariant-loop-place g l =
    Ticking g.C.Carrier.link g.C.Carrier.steps l.now l.place l.initial.link l.initial.systems l.initial.waiting.items l.link l.systems l.waiting.items × (l.place-end ≡ length l.initial.systems)
