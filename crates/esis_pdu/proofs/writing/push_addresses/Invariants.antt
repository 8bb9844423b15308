-- The addresses so far are written.
use Rattle.std.proofs.Common.{◌≡◌, ◌++◌, ◌∷◌, length, take}
use Rattle.std.specs.List.{flat_map}
use Rattle.pdu_parts.specs.Field.{field}
use Rattle.esis_pdu.proofs.writing.push_addresses.Given as goal

abbrev pub invariant-loop-address : goal.invariant-loop-address
invariant-loop-address l = l.pdu.items ≡ l.fn.pdu.items ++ length l.addresses ∷ flat_map field (take l.address-index l.addresses)
