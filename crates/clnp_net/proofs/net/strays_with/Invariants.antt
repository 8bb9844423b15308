use Rattle.clnp_net.proofs.Parts.{Counting}
use Rattle.clnp_net.proofs.net.strays_with.Given as goal

abbrev pub invariant-loop-place : goal.invariant-loop-place
invariant-loop-place l = Counting l.strays l.from l.place l.count l.floating.entries l.waiting.items
