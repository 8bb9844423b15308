use Rattle.inactive_net.proofs.Strays.{Counting}
use Rattle.inactive_net.proofs.net.strays_after.Given as goal

abbrev pub invariant-loop-place : goal.invariant-loop-place
invariant-loop-place l = Counting l.rows l.now l.floating l.strays l.from l.place l.count l.waiting.items
