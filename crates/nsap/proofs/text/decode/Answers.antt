-- `hex` reads a text of digits, and gives the octets that they stand for.
use Rattle.nsap.proofs.TextLemmas.{decode_sized-hex_octets}
use Rattle.nsap.proofs.text.decode.Goals as goal

pub unreachable-requires : goal.unreachable-requires
unreachable-requires c =
    let read = decode_sized-hex_octets _ _ c.requires.room c.requires.digits in
    c.in_default.not-Ok tt (rw read at c.decode_to_slice.ensures.value).0

pub returns : goal.returns
returns c =
    let read = decode_sized-hex_octets _ _ c.requires.room c.requires.digits in
    (rw read at c.decode_to_slice.ensures.value).1
