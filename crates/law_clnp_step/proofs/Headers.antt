-- The header of a PDU that stands at the front of octets has the length that its fields give.
use Rattle.std.proofs.Common.{◌≡◌, ℕ, ◌+◌, List, length, take, ◌∙◌, ap, arith, length-append, length-take-le}
use Rattle.clnp_header.specs.declared.pdu.Pdu.{Pdu}
use Rattle.clnp_header.specs.Writing.{header_length}
use Rattle.clnp_header.proofs.Parts.{length-header}
use Rattle.clnp_system.specs.Written.{HasPdu, header_in}

pub header_in_length : (octets : List ℕ) (pdu : Pdu) → HasPdu octets pdu → length (header_in octets pdu) ≡ header_length pdu
header_in_length octets pdu h =
    let front = h.1.front in
    let is = h.1.stands in
    let head : length is.header ≡ header_length pdu = length-header front pdu is in
    let whole : length octets ≡ length front + length h.0 = ap length h.1.whole ∙ length-append front h.0 in
    let within : length front ≡ length is.header + length pdu.body = ap length is.whole ∙ length-append is.header pdu.body in
    length-take-le (header_length pdu) octets (omega (arith, head, whole, within))
