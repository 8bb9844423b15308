use Rattle.std.proofs.Common.{◌≡◌, drop}
use Rattle.esis_tables.specs.steps.Tags.{tag_from}
use Rattle.esis_tables.proofs.rows.tag_after.Given as goal

abbrev pub invariant-loop-octet : goal.invariant-loop-octet
invariant-loop-octet l = tag_from l.tag (drop l.octet-index l.octets) ≡ tag_from 0 l.octets
