-- A number in decimal, and octets in hexadecimal, are fields of visible characters that are read back.
use Rattle.std.proofs.Common.{◌≡◌, ℕ, zero, suc, ◌+◌, ◌*◌, ◌/◌, ◌%◌, ◌^◌, ◌<◌, ◌≤◌, Bool, true, false, ◌&&◌, ◌||◌, not, List, [], ◌∷◌, length, refl, ◌∙◌, arith, Ok, codes, inl, inr, nat_eq}
use Rattle.std.specs.Prelude.{nat_le, nat_lt, ◌==◌, slice_index}
use Rattle.std.specs.Fmt.{decimal}
use Rattle.std.specs.List.{list_all}
use Rattle.std.specs.Str.Parse.{digits_value}
use Rattle.std.proofs.lemmas.Bool.{and_parts, cases_lt}
use Rattle.std.proofs.lemmas.Bool.Decides.{nat_tests}
use Rattle.std.proofs.lemmas.Fmt.{decimal_by_steps, decimal_is_IsNumeral, decimal_digit, first_decimal, length-decimal-le, decimal_nonempty}
use Rattle.std.proofs.lemmas.List.Folds.{list_all-append}
use Rattle.tpdu.proofs.WriteLaws.{or_true}
use Rattle.hex.specs.Hex.{encode_with, encode_lower, decode_of, lower_digits, IsBytes}
use Rattle.hex.proofs.HexLemmas.{decode_of-encode_lower, length-encode_with}
use Rattle.script_lines.specs.Field.{is_digit, is_number, number_of, octets_of, is_word}
use Rattle.script_storm.proofs.Fields.{is_visible}

and_both : (p q : Bool) → p ≡ true → q ≡ true → (p && q) ≡ true
and_both p q is more = rw (is, more) refl

abbrev one_digit : ℕ → List ℕ
one_digit digit = (48 + digit) ∷ []

digit_is : (digit : ℕ) → digit < 10 → is_digit (48 + digit) ≡ true
digit_is digit below = grind (arith, nat_tests)

digit_visible : (digit : ℕ) → digit < 10 → is_visible (48 + digit) ≡ true
digit_visible digit below = grind (arith, nat_tests)

module _ (test : ℕ → Bool) (each : (digit : ℕ) → digit < 10 → test (48 + digit) ≡ true) where
  one : (digit : ℕ) → digit < 10 → list_all test (one_digit digit) ≡ true
  one digit below = and_both (test (48 + digit)) true (each digit below) refl

  all_decimal : (number : ℕ) → number < 2 ^ 64 → list_all test (decimal number) ≡ true
  all_decimal number small =
      decimal_by_steps (λ n digits. list_all test digits ≡ true) one
      (λ n digits ten passed. list_all-append test digits (one_digit (n % 10)) ∙ and_both (list_all test digits) (list_all test (one_digit (n % 10))) passed (one (n % 10) (omega arith)))
      number small

pub decimal_visible : (number : ℕ) → number < 1000000000 → list_all is_visible (decimal number) ≡ true
decimal_visible number small = all_decimal is_visible digit_visible number (omega arith)

pub decimal_short : (number : ℕ) → number < 1000000000 → length (decimal number) ≤ 9
decimal_short number small = length-decimal-le 9 number (omega arith) (omega arith) (omega arith)

not_first : (first : ℕ) → 48 < first → not (first == 48) ≡ true
not_first first above = grind (arith, nat_tests)

-- a number of several digits does not begin with 0
no_zero : (number : ℕ) → number < 1000000000 → ((length (decimal number) == 1) || not (slice_index (decimal number) 0 == 48)) ≡ true
no_zero zero small = rw (decimal_digit 0 (omega arith)) refl
no_zero (suc number) small =
    or_true (length (decimal (suc number)) == 1) (not (slice_index (decimal (suc number)) 0 == 48))
    (not_first (slice_index (decimal (suc number)) 0) (first_decimal (suc number) (omega arith) (omega arith)))

at_least_one : (count : ℕ) → 0 < count → nat_lt 0 count ≡ true
at_least_one count some = grind (arith, nat_tests)

at_most : (most count : ℕ) → count ≤ most → nat_le count most ≡ true
at_most most count few = grind (arith, nat_tests)

number_is : (number : ℕ) → number < 1000000000 → is_number (decimal number) ≡ true
number_is number small =
    let text = decimal number in
    let digits = all_decimal is_digit digit_is number (omega arith) in
    let some = at_least_one (length text) (decimal_nonempty number (omega arith)) in
    let few = at_most 9 (length text) (decimal_short number small) in
    and_both _ _ (and_both _ _ (and_both _ _ digits some) few) (no_zero number small)

number_text : (most number : ℕ) (text : List ℕ) → number ≤ most → is_number text ≡ true → digits_value 10 text ≡ number → number_of 0 most text ≡ Ok number
unfolding number_of
number_text most number text within is value =
    let few = at_most most number within in
    let least = at_most number 0 (omega arith) in
    rw (is, value, few, least) refl

pub number_read : (number : ℕ) → number < 1000000000 → number_of 0 999999999 (decimal number) ≡ Ok number
number_read number small = number_text 999999999 number (decimal number) (omega arith) (number_is number small) (decimal_is_IsNumeral number (omega arith)).1

pub credit_read : (credit : ℕ) → credit < 256 → number_of 0 255 (decimal credit) ≡ Ok credit
credit_read credit small = number_text 255 credit (decimal credit) (omega arith) (number_is credit (omega arith)) (decimal_is_IsNumeral credit (omega arith)).1

-- the test of the first places of the digits, which computes
abbrev are_visible : ℕ → Bool
are_visible zero = true
are_visible (suc digit) = is_visible (slice_index lower_digits digit) && are_visible digit

place_below : (count digit : ℕ) → are_visible count ≡ true → digit < count → is_visible (slice_index lower_digits digit) ≡ true
place_below zero digit passed below = absurd (omega arith)
place_below (suc count) digit passed below =
    let parts = and_parts (is_visible (slice_index lower_digits count)) (are_visible count) passed in
    elim (cases_lt digit count) [
      | inl lower ↦ place_below count digit parts.1 lower
      | inr last ↦ let same : digit ≡ count = omega arith in rw same parts.0
    ]

place_visible : (digit : ℕ) → digit < 16 → is_visible (slice_index lower_digits digit) ≡ true
place_visible digit below = place_below 16 digit refl below

pub hex_visible : (octets : List ℕ) → IsBytes octets → list_all is_visible (encode_lower octets) ≡ true
unfolding encode_with
hex_visible [] bytes = refl
hex_visible (octet ∷ octets) bytes =
    let small : octet < 256 = bytes 0 in
    and_both _ _ (place_visible (octet / 16) (omega arith)) (and_both _ _ (place_visible (octet % 16) (omega arith)) (hex_visible octets (λ i. bytes (suc i))))

and_false : (p : Bool) → (p && false) ≡ false
and_false true = refl
and_false false = refl

no_dash : (octet : ℕ) (octets : List ℕ) → is_word (codes "-") (encode_lower (octet ∷ octets)) ≡ false
unfolding encode_with
no_dash octet octets = and_false (nat_eq (slice_index lower_digits (octet / 16)) 45)

octets_text : (text octets : List ℕ) → is_word (codes "-") text ≡ false → (length text == 0) ≡ false → decode_of text ≡ Ok octets → octets_of text ≡ Ok octets
unfolding octets_of
octets_text text octets no_dash some decoded = rw (no_dash, some, decoded) refl

none_of : (count : ℕ) → (count + 2 == 0) ≡ false
none_of count = grind (arith, nat_tests)

some_digits : (octet : ℕ) (octets : List ℕ) → (length (encode_lower (octet ∷ octets)) == 0) ≡ false
some_digits octet octets =
    let count : length (encode_lower (octet ∷ octets)) ≡ 2 * length octets + 2 = length-encode_with lower_digits (octet ∷ octets) ∙ omega arith in
    rw count (none_of (2 * length octets))

pub hex_read : (octet : ℕ) (octets : List ℕ) → IsBytes (octet ∷ octets) → octets_of (encode_lower (octet ∷ octets)) ≡ Ok (octet ∷ octets)
hex_read octet octets bytes =
    octets_text (encode_lower (octet ∷ octets)) (octet ∷ octets) (no_dash octet octets) (some_digits octet octets) (decode_of-encode_lower (octet ∷ octets) bytes)
