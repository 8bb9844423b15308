use Rattle.std.proofs.Common.{◌≡◌, drop}
use Rattle.lan_bag.specs.steps.Index.{sum_from}
use Rattle.lan_bag.proofs.frame_index.sum_after.Given as goal

abbrev pub invariant-loop-octet : goal.invariant-loop-octet
invariant-loop-octet l = sum_from l.sum (drop l.octet-index l.octets) ≡ sum_from l.start l.octets
