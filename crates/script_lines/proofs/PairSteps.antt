-- One pair more is written. While each value seen was that of a digit, the octets so far are those of the pairs so far;
-- once one was none, the pairs have no octets, whatever is written further.
use Rattle.std.proofs.Common.{◌≡◌, ℕ, ◌+◌, ◌-◌, ◌*◌, ◌%◌, ◌<◌, ◌≤◌, Bool, true, false, List, length, take, drop, slice_index, slice_set, Option, Some, None, Ok, Err, refl, ap, ◌∙◌, inl, inr, arith}
use Rattle.std.specs.Prelude.{max, nat_lt, nat_le, ◌&&◌, if◌then◌else◌}
use Rattle.std.proofs.lemmas.Bool.{cases_lt}
use Rattle.std.proofs.lemmas.Bool.Decides.{nat_tests}
use Rattle.hex.specs.Hex.{decode_pairs, digit_or_error, hex_digit_value, pair_value, value_at}
use Rattle.hex.specs.declared.error.FromHexError.{FromHexError}
use Rattle.hex.specs.declared.error.FromHexError.TheVariants.{InvalidHexCharacter}
use Rattle.hex.proofs.Pairs.{prepend, decode_done, decode_err, decode_start, decode_step}
use Rattle.script_lines.specs.declared.cause.LineCause.TheVariants as causes
use Rattle.script_lines.specs.Field.{as_octets}
use Rattle.script_lines.specs.steps.Pairs.{Writes, digit_or_none, or_none}

-- so many pairs are written, and this was the greatest value
pub record Written (text octets : List ℕ) (count most : ℕ) : Type 0 where
  pub digits : most < 16 → decode_pairs 0 text ≡ prepend (take count octets) (decode_pairs (2 * count) (drop (2 * count) text))
  pub other : 16 ≤ most → as_octets (decode_pairs 0 text) ≡ Err causes.Syntax

pub written_none : (text octets : List ℕ) → Written text octets 0 0
written_none text octets = record { digits = λ _. decode_start text octets; other = λ h. absurd (omega (arith, h)) }

-- a value is that of a digit
abbrev IsSmall : Option ℕ → Type 0
IsSmall (Some value) = value < 16
IsSmall None = Unit {0}

small_when : (b : Bool) (v : ℕ) (o : Option ℕ) → (b ≡ true → v < 16) → IsSmall o → IsSmall (if b then Some v else o)
small_when true v o here rest = here refl
small_when false v o here rest = rest

-- the value of a digit is below 16
value_small : (c : ℕ) → IsSmall (hex_digit_value c)
value_small c =
    small_when (nat_le 65 c && nat_le c 70) (c - 55) _ (λ h. grind (arith, nat_tests, h))
    (small_when (nat_le 97 c && nat_le c 102) (c - 87) _ (λ h. grind (arith, nat_tests, h))
    (small_when (nat_le 48 c && nat_le c 57) (c - 48) None (λ h. grind (arith, nat_tests, h)) tt))

-- below 16 stands the value of a digit
digit_of : (c i : ℕ) (o : Option ℕ) → or_none o < 16 → digit_or_error c i o ≡ Ok (or_none o)
digit_of c i (Some v) lt = refl
digit_of c i None lt = absurd (omega (arith, lt))

-- from 16 on none
none_of : (c i : ℕ) (o : Option ℕ) → IsSmall o → 16 ≤ or_none o → digit_or_error c i o ≡ Err (InvalidHexCharacter c i)
none_of c i (Some v) small le = absurd (omega (arith, small, le))
none_of c i None small le = refl

-- two digits are read as their octet
pair_of : (a b i : ℕ) → digit_or_none a < 16 → digit_or_none b < 16 → pair_value a b i ≡ Ok (digit_or_none a * 16 + digit_or_none b)
pair_of a b i high low =
    let first : value_at a i ≡ Ok (digit_or_none a) = digit_of a i (hex_digit_value a) high in
    let second : value_at b (i + 1) ≡ Ok (digit_or_none b) = digit_of b (i + 1) (hex_digit_value b) low in
    rw (first, second) refl

-- a pair without a second digit, and one without a first
fault_low : (a b i : ℕ) → digit_or_none a < 16 → 16 ≤ digit_or_none b → pair_value a b i ≡ Err (InvalidHexCharacter b (i + 1))
fault_low a b i high low =
    let first : value_at a i ≡ Ok (digit_or_none a) = digit_of a i (hex_digit_value a) high in
    let second : value_at b (i + 1) ≡ Err (InvalidHexCharacter b (i + 1)) = none_of b (i + 1) (hex_digit_value b) (value_small b) low in
    rw (first, second) refl

fault_high : (a b i : ℕ) → 16 ≤ digit_or_none a → pair_value a b i ≡ Err (InvalidHexCharacter a i)
fault_high a b i high =
    let first : value_at a i ≡ Err (InvalidHexCharacter a i) = none_of a i (hex_digit_value a) (value_small a) high in
    rw first refl

-- a pair that has no octet
fault_there : (a b i : ℕ) → 16 ≤ max (digit_or_none a) (digit_or_none b) → (e : FromHexError) × (pair_value a b i ≡ Err e)
fault_there a b i none =
    elim (cases_lt (digit_or_none a) 16) [
      | inl below ↦ (_, fault_low a b i (omega arith) (omega arith))
      | inr top ↦ (_, fault_high a b i (omega arith))
    ]

-- one pair more
pub written_more : (text octets : List ℕ) (i most high low next : ℕ) → 2 * i + 1 < length text → i < length octets
    → high ≡ digit_or_none (slice_index text (2 * i)) → low ≡ digit_or_none (slice_index text (2 * i + 1)) → next ≡ max (max most high) low
    → Written text octets i most → Written text (slice_set octets i ((high * 16 % 256 + low) % 256)) (i + 1) next
written_more text octets i most high low next fits room high_is low_is next_is so_far =
    record {
      digits = λ h.
          let pair = pair_of (slice_index text (2 * i)) (slice_index text (2 * i + 1)) (2 * i) (omega arith) (omega arith) in
          let value : digit_or_none (slice_index text (2 * i)) * 16 + digit_or_none (slice_index text (2 * i + 1)) ≡ (high * 16 % 256 + low) % 256 = omega arith in
          decode_step text octets i _ fits room (pair ∙ ap Ok value) (so_far.digits (omega arith));
      other = λ h. elim (cases_lt most 16) [
        | inl below ↦
            let fault = fault_there (slice_index text (2 * i)) (slice_index text (2 * i + 1)) (2 * i) (omega arith) in
            ap as_octets (decode_err text octets i fault.0 fits fault.1 (so_far.digits below))
        | inr top ↦ so_far.other top
      ];
    }

-- all pairs are written
pub writes_all : (text octets : List ℕ) (i most : ℕ) (b : Bool) → b ≡ nat_lt most 16 → length octets ≤ i → length text ≡ 2 * length octets → Written text octets i most → Writes text octets b
writes_all text octets i most true is done twice so_far = decode_done text octets i done (omega arith) (so_far.digits (grind (arith, nat_tests)))
writes_all text octets i most false is done twice so_far = so_far.other (grind (arith, nat_tests))
