-- The length of the addresses so far, each of them allowed.
use Rattle.std.proofs.Common.{◌≡◌, ◌≤◌, length, take}
use Rattle.std.specs.List.{AllByRecursion, flat_map}
use Rattle.pdu_parts.specs.Field.{IsAddress, field}
use Rattle.esis_pdu.proofs.writing.addresses_length.Given as goal

abbrev pub invariant-loop-address : goal.invariant-loop-address
invariant-loop-address l = record {
  value : l.length ≡ length (flat_map field (take l.address-index l.addresses));
  most : l.length ≤ 254;
  each : AllByRecursion IsAddress (take l.address-index l.addresses);
}
