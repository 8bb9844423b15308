-- The addresses so far are too long, so all are.
use Rattle.std.proofs.Common.{◌+◌, ◌<◌, length, take, get_or, arith}
use Rattle.std.specs.List.{flat_map}
use Rattle.pdu_parts.specs.Field.{field}
use Rattle.esis_pdu.proofs.Lengths.{too_long}
use Rattle.esis_pdu.proofs.writing.addresses_length.Goals as goal

pub returns-then-length-gt-MOST-clause-value : goal.returns-then-length-gt-MOST-clause-value
returns-then-length-gt-MOST-clause-value c =
    let addresses = c.args.addresses.now in
    let long : 254 < length (flat_map field (take c.loop-address.address-index addresses)) + length (field (get_or addresses c.loop-address.address-index c.address-item.result)) =
    rw (← c.address-item.is) (omega arith) in
    too_long addresses c.loop-address.address-index c.address-item.result c.loop-address-test.true long
