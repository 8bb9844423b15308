use Rattle.std.proofs.Common.{◌≡◌, ◌*◌, ◌++◌, take, drop}
use Rattle.hex.specs.Hex.{encode_lower}
use Rattle.text_parts.proofs.digits.fill_hex.Given as goal

-- what stands, with the digits of what is left, is the digits of all
abbrev pub invariant-octets : goal.invariant-octets
invariant-octets l =
    take (2 * l.i) l.place ++ encode_lower (drop l.i l.octets) ≡ encode_lower l.octets
