-- Each address takes an octet at least.
use Rattle.std.proofs.Common.{length, arith, ap}
use Rattle.esis_pdu.proofs.Lengths.{count_within}
use Rattle.esis_pdu.proofs.writing.push_parts.Goals as goal

pub push_addresses-requires : goal.push_addresses-requires
push_addresses-requires c =
    let fits = rw c.in-Esh.is at c.requires in
    omega (arith, count_within c.in-Esh.addresses, fits, ap length c.as_slice.ensures)
