-- The fields of a line of the script, and the forms that a field may have by its characters alone.
use Rattle.std.specs.Prelude.{◌==◌, ℕ, Bool, true, false, not, ◌&&◌, ◌||◌, nat_lt, nat_le, nat_eq, ◌%◌, if◌then◌else◌, List, [], ◌∷◌, length}
use Rattle.std.specs.Prelude.{slice_index, Result, Ok, Err, codes}
use Rattle.std.specs.List.{list_all, slice_split}
use Rattle.std.specs.Cmp.Lexicographic.{pointwise}
use Rattle.std.specs.Str.Parse.{digits_value}
use Rattle.hex.specs.Hex.{decode_of}
use Rattle.nsap.specs.Address.{selector_of}
use Rattle.nsap.specs.Text.{address_of_text, snpa_of_text, prefix_of_text}
use Rattle.nsap.specs.declared.text.NsapFault.{NsapFault}
use Rattle.nsap.specs.declared.text.NsapFault.TheVariants as faults
use Rattle.script_lines.specs.declared.cause.LineCause.{LineCause}
use Rattle.script_lines.specs.declared.cause.LineCause.TheVariants as causes

-- the fields of a line, parted by one blank each; a line of no octets has one empty field
unfoldable pub fields_of : List ℕ → List (List ℕ)
fields_of line = slice_split (λ octet. octet == 32) line

abbrev pub is_word : List ℕ → List ℕ → Bool
is_word word field = pointwise nat_eq field word

abbrev pub is_printable : ℕ → Bool
is_printable octet = nat_le 32 octet && nat_le octet 126

abbrev pub is_lower_letter : ℕ → Bool
is_lower_letter octet = nat_le 97 octet && nat_le octet 122

abbrev pub is_digit : ℕ → Bool
is_digit octet = nat_le 48 octet && nat_le octet 57

abbrev pub is_letter_or_digit : ℕ → Bool
is_letter_or_digit octet = is_lower_letter octet || (nat_le 65 octet && nat_le octet 90) || is_digit octet

-- a lower-case letter and up to seven letters or digits, but not `frame`
unfoldable pub is_name : List ℕ → Bool
is_name [] = false
is_name (first ∷ others) =
    is_lower_letter first && list_all is_letter_or_digit others && nat_le (length others) 7 && not (is_word (codes "frame") (first ∷ others))

-- one to nine decimal digits, the first of several not 0
abbrev pub is_number : List ℕ → Bool
is_number text =
    list_all is_digit text && nat_lt 0 (length text) && nat_le (length text) 9 && ((length text == 1) || not (slice_index text 0 == 48))

-- a number from least to most
unfoldable pub number_of : ℕ → ℕ → List ℕ → Result ℕ LineCause
number_of least most text =
    if is_number text then (if nat_le least (digits_value 10 text) && nat_le (digits_value 10 text) most then Ok (digits_value 10 text) else Err causes.Range)
    else Err causes.Syntax

-- too few or too many digits are out of range, and all else is no form
abbrev pub digits_cause : NsapFault → LineCause
digits_cause faults.Empty = causes.Syntax
digits_cause (faults.BadDigit place) = causes.Syntax
digits_cause faults.OddDigits = causes.Syntax
digits_cause faults.TooShort = causes.Range
digits_cause faults.TooLong = causes.Range

abbrev pub as_title : Result (List ℕ) NsapFault → Result (List ℕ) LineCause
as_title (Ok octets) = if nat_lt 1 (length octets) && (selector_of octets == 0) then Ok octets else Err causes.Range
as_title (Err fault) = Err (digits_cause fault)

-- the title of a system: two to twenty octets, the last of them 0
unfoldable pub title_of : List ℕ → Result (List ℕ) LineCause
title_of text = as_title (address_of_text text)

abbrev pub as_station : Result (List ℕ) NsapFault → Result (List ℕ) LineCause
as_station (Ok octets) = if slice_index octets 0 % 2 == 1 then Err causes.Range else Ok octets
as_station (Err fault) = Err (digits_cause fault)

-- the SNPA of one system, not of a group
unfoldable pub station_of : List ℕ → Result (List ℕ) LineCause
station_of text = as_station (snpa_of_text text)

abbrev pub as_prefix : Result (List ℕ) NsapFault → Result (List ℕ) LineCause
as_prefix (Ok octets) = Ok octets
as_prefix (Err fault) = Err (digits_cause fault)

unfoldable pub prefix_of : List ℕ → Result (List ℕ) LineCause
prefix_of text = as_prefix (prefix_of_text text)

abbrev pub as_octets : {E : Type 0} → Result (List ℕ) E → Result (List ℕ) LineCause
as_octets (Ok octets) = Ok octets
as_octets (Err fault) = Err causes.Syntax

-- the octets that a text of digits in pairs stands for; `-` stands for none
unfoldable pub octets_of : List ℕ → Result (List ℕ) LineCause
octets_of text =
    if is_word (codes "-") text then Ok []
    else if length text == 0 then Err causes.Syntax
    else as_octets (decode_of text)

-- so many octets are within the bounds
abbrev pub within : ℕ → ℕ → List ℕ → Result (List ℕ) LineCause
within least most octets = if nat_le least (length octets) && nat_le (length octets) most then Ok octets else Err causes.Range

-- one of two words: the first is true
abbrev pub choice_of : List ℕ → List ℕ → List ℕ → Result Bool LineCause
choice_of first second text = if is_word first text then Ok true else if is_word second text then Ok false else Err causes.Syntax
