-- Octets written from pairs of digits, and only then whether all were digits.
use Rattle.std.specs.Prelude.{◌≡◌, ℕ, Bool, true, false, List, Option, Some, None, Ok, Err}
use Rattle.hex.specs.Hex.{decode_pairs, hex_digit_value}
use Rattle.script_lines.specs.declared.cause.LineCause.TheVariants as causes
use Rattle.script_lines.specs.Field.{as_octets}

abbrev pub or_none : Option ℕ → ℕ
or_none (Some value) = value
or_none None = 255

-- the value of a digit in either case, and 255 where the octet is none
abbrev pub digit_or_none : ℕ → ℕ
digit_or_none octet = or_none (hex_digit_value octet)

-- these octets are those of the pairs, or one is no digit
abbrev pub Writes : List ℕ → List ℕ → Bool → Type 0
Writes text octets true = decode_pairs 0 text ≡ Ok octets
Writes text octets false = as_octets (decode_pairs 0 text) ≡ Err causes.Syntax
