-- Addresses as text: two hexadecimal digits for each octet, in either case (ISO/IEC 8348, network layer addressing).
use Rattle.std.specs.Prelude.{◌==◌, ℕ, ◌+◌, ◌*◌, ◌%◌, not, nat_lt, if◌then◌else◌, List, [], ◌∷◌, length, Option, Some, None, unwrap_or, position, Result, Ok, Err, codes, nat_eq}
use Rattle.hex.specs.Hex.{hex_digit_value, is_hex_digit}
use Rattle.std.specs.Cmp.Lexicographic.{pointwise}
use Rattle.nsap.specs.declared.text.NsapFault.{NsapFault}
use Rattle.nsap.specs.declared.text.NsapFault.TheVariants.{Empty, BadDigit, OddDigits, TooShort, TooLong}

-- the octet that two digits stand for
abbrev pub octet_of : ℕ → ℕ → ℕ
octet_of high low = unwrap_or (hex_digit_value high) 0 * 16 + unwrap_or (hex_digit_value low) 0

-- the octets that pairs of digits stand for
unfoldable pub hex_octets : List ℕ → List ℕ
hex_octets [] = []
hex_octets (digit ∷ []) = []
hex_octets (high ∷ low ∷ rest) = octet_of high low ∷ hex_octets rest

-- what is wrong with a text of digits alone, of at least and at most so many
abbrev pub count_fault : ℕ → ℕ → ℕ → Option NsapFault
count_fault least most digits =
    if digits % 2 == 1 then Some OddDigits
    else if nat_lt digits least then Some TooShort
    else if nat_lt most digits then Some TooLong
    else None

-- the index of the first character that is no digit
abbrev pub first_bad : List ℕ → Option ℕ
first_bad text = position (λ c. not (is_hex_digit c)) text

-- that character's place, counted from 1, and else what is wrong with the count of digits
abbrev pub digit_fault : ℕ → ℕ → List ℕ → Option ℕ → Option NsapFault
digit_fault least most text (Some at) = Some (BadDigit (at + 1))
digit_fault least most text None = count_fault least most (length text)

-- the first that applies: nothing there, a character that is no digit, an odd number, too few, too many
abbrev pub text_fault : ℕ → ℕ → List ℕ → Option NsapFault
text_fault least most text =
    if length text == 0 then Some Empty
    else digit_fault least most text (first_bad text)

-- the octets, unless there is a fault
abbrev pub octets_or_fault : List ℕ → Option NsapFault → Result (List ℕ) NsapFault
octets_or_fault octets None = Ok octets
octets_or_fault octets (Some fault) = Err fault

-- the address that a text of 2 to 40 digits stands for
abbrev pub address_of_text : List ℕ → Result (List ℕ) NsapFault
address_of_text text = octets_or_fault (hex_octets text) (text_fault 0 40 text)

-- the SNPA that a text of 12 digits stands for
abbrev pub snpa_of_text : List ℕ → Result (List ℕ) NsapFault
snpa_of_text text = octets_or_fault (hex_octets text) (text_fault 12 12 text)

-- the prefix that a text of 2 to 40 digits stands for, or `-` for the empty one
abbrev pub prefix_of_text : List ℕ → Result (List ℕ) NsapFault
prefix_of_text text =
    if pointwise nat_eq text (codes "-") then Ok []
    else octets_or_fault (hex_octets text) (text_fault 0 40 text)
