-- How the fields of a line are written: octets, addresses, parameters, and the line that they make.
use Rattle.std.specs.Prelude.{ℕ, ◌-◌, ◌==◌, ◌&&◌, ◌||◌, nat_le, if◌then◌else◌, List, [], ◌∷◌, ◌++◌, length, map, take, drop, slice_index, Option, Some, None, codes}
use Rattle.hex.specs.Hex.{encode_lower}
use Rattle.pdu_parts.specs.Parameter.{Parameter}

-- the fields with one blank between two of them, and a line feed
abbrev pub line : List (List ℕ) → List ℕ
line [] = 10 ∷ []
line (field ∷ []) = field ++ 10 ∷ []
line (field ∷ next ∷ more) = field ++ 32 ∷ line (next ∷ more)

-- with a separator between two of them
abbrev pub joined : ℕ → List (List ℕ) → List ℕ
joined separator [] = []
joined separator (text ∷ []) = text
joined separator (text ∷ next ∷ more) = text ++ separator ∷ joined separator (next ∷ more)

-- with commas between them, `-` for none
abbrev pub listed_text : List (List ℕ) → List ℕ
listed_text [] = codes "-"
listed_text (text ∷ texts) = joined 44 (text ∷ texts)

-- octets in hexadecimal, `-` for none
abbrev pub octets_text : List ℕ → List ℕ
octets_text [] = codes "-"
octets_text (octet ∷ octets) = encode_lower (octet ∷ octets)

-- ---- addresses

-- How many octets the parts of an address have, by its authority and format identifier and its length: the identifier, two octets
-- where it is 39 or 47, what is in the middle, and the selector.
abbrev pub counts_of : ℕ → ℕ → List ℕ
counts_of identifier count =
    if (identifier == 0x49) && nat_le 3 count then 1 ∷ (count - 2) ∷ 1 ∷ []
    else if ((identifier == 0x39) || (identifier == 0x47)) && nat_le 5 count then 1 ∷ 2 ∷ (count - 4) ∷ 1 ∷ []
    else count ∷ []

-- parts of so many octets, one after another
abbrev pub cut : List ℕ → List ℕ → List (List ℕ)
cut [] octets = []
cut (count ∷ counts) octets = take count octets ∷ cut counts (drop count octets)

-- the parts of an address in hexadecimal, with dots between them
abbrev pub address_text : List ℕ → List ℕ
address_text address = joined 46 (map encode_lower (cut (counts_of (slice_index address 0) (length address)) address))

abbrev pub title_text : Option (List ℕ) → List ℕ
title_text None = codes "-"
title_text (Some title) = address_text title

abbrev pub addresses_text : List (List ℕ) → List ℕ
addresses_text addresses = listed_text (map address_text addresses)

-- ---- parameters

-- `code=value`
abbrev pub parameter_text : Parameter → List ℕ
parameter_text parameter = encode_lower (parameter.code ∷ []) ++ 61 ∷ octets_text parameter.value

abbrev pub parameters_text : List Parameter → List ℕ
parameters_text parameters = listed_text (map parameter_text parameters)
