use Rattle.std.proofs.Common.{◌≡◌, drop}
use Rattle.clnp_net.specs.steps.Indexed.{sum_from}
use Rattle.clnp_net.proofs.afloat.sum_after.Given as goal

abbrev pub invariant-loop-octet : goal.invariant-loop-octet
invariant-loop-octet l = sum_from l.sum (drop l.octet-index l.octets) ≡ sum_from l.start l.octets
