-- The texts without a fault are even counts of digits, and of these `hex` reads the octets that pairs of digits stand for:
-- both go along the text by two.
use Rattle.std.proofs.Common.{◌≡◌, ℕ, zero, suc, ◌^◌, ◌-◌, ◌+◌, ◌++◌, take, slice_index, ◌*◌, ◌/◌, ◌%◌, ◌<◌, ◌≤◌, ◌==◌, ◌&&◌, inl, inr, cond, Bool, true, false, not, List, [], ◌∷◌, length, Option, Some, None, unwrap_or, get_or, Ok, is_some, refl, ap, ◌∙◌, arith}
use Rattle.std.specs.List.{AllPass, position_or_len, prefix_len}
use Rattle.std.proofs.lemmas.List.Elements.{All-head, All-tail}
use Rattle.std.proofs.lemmas.List.Sums.{prefix_len_is, prefix_len_passes}
use Rattle.hex.specs.Hex.{IsBytes, decode_pairs, decode_sized, encode_lower, encode_with, lower_digits, digit_or_error, hex_digit_value, is_hex_digit, pair_value, value_at}
use Rattle.hex.proofs.HexLemmas.{IsDigits-lower_digits, decode_pairs-encode_with, decode_pairs-ok, length-encode_with}
use Rattle.hex.proofs.Pairs.{cons_byte, decode_pairs-ok_pair, decode_sized-pairs}
use Rattle.std.specs.Fmt.{digit_glyph, digits, format_spec, padded_integral}
use Rattle.std.specs.Prelude.{codes, nat_eq, ◌≢◌}
use Rattle.std.specs.Cmp.Lexicographic.{unequal}
use Rattle.std.proofs.lemmas.Bool.{and_parts, cases_lt, eqb-true}
use Rattle.std.proofs.lemmas.Fmt.{hex_byte}
use Rattle.std.proofs.lemmas.List.{take_more}
use Rattle.nsap.specs.Text.{address_of_text, prefix_of_text, snpa_of_text, count_fault, digit_fault, first_bad, hex_octets, octet_of, text_fault}
use Rattle.nsap.specs.steps.Digits.{IsDigits}
use Rattle.nsap.specs.declared.text.NsapFault.{NsapFault}
use Rattle.nsap.specs.declared.text.NsapFault.TheVariants.{Empty}

-- two digits for each octet
pub length-hex_octets : (text : List ℕ) → length (hex_octets text) ≡ length text / 2
unfolding hex_octets
length-hex_octets [] = refl
length-hex_octets (digit ∷ []) = refl
length-hex_octets (high ∷ low ∷ rest) = omega (arith, length-hex_octets rest)

-- the fact of `AllPass is_hex_digit`
abbrev Digit : ℕ → Type 0
Digit c = is_hex_digit c ≡ true

-- a digit is read
value_of_digit : (c i : ℕ) (value : Option ℕ) → is_some value ≡ true → digit_or_error c i value ≡ Ok (unwrap_or value 0)
value_of_digit c i (Some value) digit = refl
value_of_digit c i None digit = cc digit

-- two digits are read
pair_value-octet_of : (high low i : ℕ) → Digit high → Digit low → pair_value high low i ≡ Ok (octet_of high low)
pair_value-octet_of high low i first second =
    let a : value_at high i ≡ Ok (unwrap_or (hex_digit_value high) 0) = value_of_digit high i (hex_digit_value high) first in
    let b : value_at low (i + 1) ≡ Ok (unwrap_or (hex_digit_value low) 0) = value_of_digit low (i + 1) (hex_digit_value low) second in
    rw (a, b)

-- an even count of digits is read
pub decode_pairs-hex_octets : (i : ℕ) (text : List ℕ) → length text % 2 ≡ 0 → AllPass is_hex_digit text
    → decode_pairs i text ≡ Ok (hex_octets text)
unfolding decode_pairs hex_octets
decode_pairs-hex_octets i [] even digits = refl
decode_pairs-hex_octets i (digit ∷ []) even digits = absurd (omega arith)
decode_pairs-hex_octets i (high ∷ low ∷ rest) even digits =
    let tail = All-tail Digit high (low ∷ rest) digits in
    let pair = pair_value-octet_of high low i (All-head Digit high (low ∷ rest) digits) (All-head Digit low rest tail) in
    let more = decode_pairs-hex_octets (i + 2) rest (omega arith) (All-tail Digit low rest tail) in
    decode_pairs-ok_pair i high low _ rest pair ∙ ap (cons_byte (octet_of high low)) more

-- the same into room for them
pub decode_sized-hex_octets : (text : List ℕ) (room : ℕ) → length text ≡ 2 * room → AllPass is_hex_digit text
    → decode_sized text room ≡ Ok (hex_octets text)
decode_sized-hex_octets text room twice digits =
    let even : length text % 2 ≡ 0 = omega arith in
    let half : length text / 2 ≡ room = omega arith in
    decode_sized-pairs text room even half ∙ decode_pairs-hex_octets 0 text even digits

-- ---- a text without a fault

not_not : (b : Bool) → not (not b) ≡ true → b ≡ true
not_not true h = h
not_not false h = h

-- with no first bad character each is a digit
AllPass-first_bad : (text : List ℕ) → first_bad text ≡ None → AllPass is_hex_digit text
AllPass-first_bad text none =
    let test : ℕ → Bool = λ c. not (is_hex_digit c) in
    let past : length text ≤ position_or_len test text = grind arith in
    λ k d within. not_not (is_hex_digit (get_or text k d)) (prefix_len_passes (λ c. not (test c)) text k d (omega (arith, past, within)))

-- where no character is bad, the fault is one of the count
digit_fault-none : (least most : ℕ) (text : List ℕ) (at : Option ℕ) → digit_fault least most text at ≡ None
    → (at ≡ None) × (count_fault least most (length text) ≡ None)
digit_fault-none least most text (Some at) h = cc h
digit_fault-none least most text None h = (refl, h)

count_fault-none : (least most digits : ℕ) → count_fault least most digits ≡ None
    → (digits % 2 ≡ 0) × (least ≤ digits) × (digits ≤ most)
count_fault-none least most digits h = (grind arith, grind arith, grind arith)

-- there is no fault only where the text is not empty and the second part has none
none_after_test : (empty : Bool) (fault : NsapFault) (more : Option NsapFault) → cond empty (Some fault) more ≡ None
    → (empty ≡ false) × (more ≡ None)
none_after_test true fault more h = cc h
none_after_test false fault more h = (refl, h)

pub IsDigits-text_fault : (least most : ℕ) (text : List ℕ) → text_fault least most text ≡ None → IsDigits least most text
IsDigits-text_fault least most text h =
    let tested = none_after_test (length text == 0) Empty (digit_fault least most text (first_bad text)) h in
    let parts = digit_fault-none least most text (first_bad text) tested.1 in
    let count = count_fault-none least most (length text) parts.1 in
    let some : length text == 0 ≡ false = tested.0 in
    record {
      digits = AllPass-first_bad text parts.0;
      even = count.0;
      some = grind arith;
      enough = count.1;
      fits = count.2;
    }

-- where each character is a digit, none is the first bad one
first_bad-AllPass : (text : List ℕ) → AllPass is_hex_digit text → first_bad text ≡ None
first_bad-AllPass text digits =
    let test : ℕ → Bool = λ c. not (not (is_hex_digit c)) in
    let all : prefix_len test text ≡ length text =
    prefix_len_is test text (length text) 0 (omega arith) (λ k within. ap (λ b. not (not b)) (digits k 0 within)) (λ past. absurd (omega arith)) in
    grind (arith, all)

pub text_fault-IsDigits : (least most : ℕ) (text : List ℕ) → IsDigits least most text → text_fault least most text ≡ None
text_fault-IsDigits least most text h =
    let none = first_bad-AllPass text h.digits in
    let some = h.some in
    let even = h.even in
    let enough = h.enough in
    let fits = h.fits in
    rw none (grind arith)

-- ---- printing

-- the test of the first digits of both tables, which computes
abbrev same_digits : ℕ → Bool
same_digits zero = true
same_digits (suc n) = (digit_glyph false n == slice_index lower_digits n) && same_digits n

same_digits-at : (n d : ℕ) → same_digits n ≡ true → d < n → digit_glyph false d ≡ slice_index lower_digits d
same_digits-at zero d same below = absurd (omega arith)
same_digits-at (suc n) d same below =
    let parts = and_parts (digit_glyph false n == slice_index lower_digits n) (same_digits n) same in
    elim (cases_lt d n) [
      | inl earlier ↦ same_digits-at n d parts.1 earlier
      | inr last ↦
          let here : d ≡ n = omega arith in
          rw here (eqb-true (digit_glyph false n) (slice_index lower_digits n) parts.0)
    ]

-- `{:x}` and `hex` have the same digits
digit_glyph-lower_digits : (d : ℕ) → d < 16 → digit_glyph false d ≡ slice_index lower_digits d
digit_glyph-lower_digits d small = same_digits-at 16 d refl small

encode_with-append : (table front back : List ℕ)
    → encode_with table (front ++ back) ≡ encode_with table front ++ encode_with table back
unfolding encode_with
encode_with-append table [] back = refl
encode_with-append table (octet ∷ front) back =
    ap (λ (rest : List ℕ). slice_index table (octet / 16) ∷ slice_index table (octet % 16) ∷ rest) (encode_with-append table front back)

-- one octet is printed as two digits
encode_lower-octet : (octet : ℕ) → octet < 256
    → encode_lower (octet ∷ []) ≡ padded_integral (format_spec 32 0 4 2 (2 ^ 64 - 1)) false [] (digits 16 false octet)
unfolding encode_with
encode_lower-octet octet fits =
    let high = digit_glyph-lower_digits (octet / 16) (omega arith) in
    let low = digit_glyph-lower_digits (octet % 16) (omega arith) in
    rw (hex_byte false octet fits, high, low)

-- one more octet is printed
pub encode_lower-more : (octets : List ℕ) (i : ℕ) → i < length octets → get_or octets i 0 < 256
    → encode_lower (take (i + 1) octets)
    ≡ encode_lower (take i octets) ++ padded_integral (format_spec 32 0 4 2 (2 ^ 64 - 1)) false [] (digits 16 false (get_or octets i 0))
encode_lower-more octets i within octet =
    ap encode_lower (take_more octets i 0 within)
    ∙ encode_with-append lower_digits (take i octets) (get_or octets i 0 ∷ [])
    ∙ ap (λ (more : List ℕ). encode_lower (take i octets) ++ more) (encode_lower-octet (get_or octets i 0) octet)

-- ---- the round trip

-- a printed list of octets is a text of digits
pub IsDigits-encode_lower : (least most : ℕ) (octets : List ℕ) → IsBytes octets → 0 < length octets
    → least ≤ 2 * length octets → 2 * length octets ≤ most → IsDigits least most (encode_lower octets)
IsDigits-encode_lower least most octets bytes some enough fits =
    let twice = length-encode_with lower_digits octets in
    let read = decode_pairs-ok 0 (encode_lower octets) octets (decode_pairs-encode_with lower_digits IsDigits-lower_digits 0 octets bytes) in
    record {
      digits = read.0;
      even = omega (arith, twice);
      some = omega (arith, twice);
      enough = omega (arith, twice);
      fits = omega (arith, twice);
    }

-- a printed list of octets stands for itself
pub hex_octets-encode_lower : (octets : List ℕ) → IsBytes octets → hex_octets (encode_lower octets) ≡ octets
hex_octets-encode_lower octets bytes =
    let read = decode_pairs-encode_with lower_digits IsDigits-lower_digits 0 octets bytes in
    let parts = decode_pairs-ok 0 (encode_lower octets) octets read in
    let twice = length-encode_with lower_digits octets in
    let same = decode_pairs-hex_octets 0 (encode_lower octets) (omega (arith, twice)) parts.0 in
    cc

pub address_of_text-encode_lower : (octets : List ℕ) → IsBytes octets → 0 < length octets → length octets ≤ 20
    → address_of_text (encode_lower octets) ≡ Ok octets
address_of_text-encode_lower octets bytes some fits =
    let none = text_fault-IsDigits 0 40 _ (IsDigits-encode_lower 0 40 octets bytes some (omega arith) (omega arith)) in
    rw (none, hex_octets-encode_lower octets bytes)

pub snpa_of_text-encode_lower : (octets : List ℕ) → IsBytes octets → length octets ≡ 6
    → snpa_of_text (encode_lower octets) ≡ Ok octets
snpa_of_text-encode_lower octets bytes six =
    let none = text_fault-IsDigits 12 12 _ (IsDigits-encode_lower 12 12 octets bytes (omega arith) (omega arith) (omega arith)) in
    rw (none, hex_octets-encode_lower octets bytes)

-- digits come in pairs, so a printed prefix is not the text `-`
pub prefix_of_text-encode_lower : (octets : List ℕ) → IsBytes octets → 0 < length octets → length octets ≤ 20
    → prefix_of_text (encode_lower octets) ≡ Ok octets
prefix_of_text-encode_lower octets bytes some fits =
    let twice = length-encode_with lower_digits octets in
    let other : length (encode_lower octets) ≢ length (codes "-") = λ same. omega (arith, twice, same) in
    rw (unequal nat_eq (encode_lower octets) (codes "-") other) (address_of_text-encode_lower octets bytes some fits)
