-- A text of at most nine digits stands for a number of 32 bits, and each digit adds to ten times the one before it.
use Rattle.std.proofs.Common.{◌≡◌, ℕ, suc, ◌+◌, ◌-◌, ◌*◌, ◌^◌, ◌<◌, ◌≤◌, Bool, true, false, List, [], ◌∷◌, length, get_or, take, refl, sym, ◌∙◌, ap, arith}
use Rattle.std.specs.List.{list_all}
use Rattle.std.specs.Char.{digit_value}
use Rattle.std.specs.Str.Parse.{digits_value, AllDigits}
use Rattle.std.proofs.lemmas.Bool.{false≢true}
use Rattle.std.proofs.lemmas.List.Folds.{list_all_at}
use Rattle.std.proofs.lemmas.Int.Digits.{digits_value-lt, digits_value_more}
use Rattle.std.proofs.lemmas.Str.Parse.{digits_value-take-le}
use Rattle.std.proofs.lemmas.Bool.Decides.{nat_tests}
use Rattle.script_lines.specs.Field.{is_digit}

pub passes_at : (p : ℕ → Bool) (xs : List ℕ) (i : ℕ) (b : Bool) → i < length xs → list_all p xs ≡ true → p (get_or xs i 0) ≡ b → p (get_or xs i 0) ≡ true
passes_at p xs i true lt all is = is
passes_at p xs i false lt all is = absurd (false≢true (sym (list_all_at p xs i 0 lt is) ∙ all))

record IsDecimal (c : ℕ) : Type 0 where
  low : 48 ≤ c
  high : c ≤ 57

decimal_is : (c : ℕ) → is_digit c ≡ true → IsDecimal c
decimal_is c is = record { low = grind (arith, nat_tests); high = grind (arith, nat_tests) }

decimal_at : (xs : List ℕ) (i : ℕ) → list_all is_digit xs ≡ true → i < length xs → IsDecimal (get_or xs i 0)
decimal_at xs i all lt = decimal_is _ (passes_at is_digit xs i _ lt all refl)

value_is : (c : ℕ) → IsDecimal c → digit_value c ≡ c - 48
value_is c d = let l = d.low in let h = d.high in grind (arith, nat_tests)

pub value_more : (xs : List ℕ) (i : ℕ) → list_all is_digit xs ≡ true → i < length xs → digits_value 10 (take (i + 1) xs) ≡ digits_value 10 (take i xs) * 10 + (get_or xs i 0 - 48)
value_more xs i all lt = digits_value_more 10 xs i lt ∙ ap (λ (d : ℕ). digits_value 10 (take i xs) * 10 + d) (value_is _ (decimal_at xs i all lt))

all_digits_by : (xs : List ℕ) → ((i : ℕ) → i < length xs → IsDecimal (get_or xs i 0)) → AllDigits 10 xs
all_digits_by [] each = tt
all_digits_by (c ∷ cs) each =
    let here : IsDecimal c = each 0 (omega arith) in
    let l = here.low in
    let h = here.high in
    (omega (arith, value_is c here), all_digits_by cs (λ i lt. each (suc i) (omega arith)))

power_le : (n : ℕ) → n ≤ 9 → 10 ^ n ≤ 1000000000
power_le (suc (suc (suc (suc (suc (suc (suc (suc (suc (suc n)))))))))) le = absurd (omega arith)
power_le n le = omega arith

pub value_fits : (xs : List ℕ) (i : ℕ) → list_all is_digit xs ≡ true → length xs ≤ 9 → i < length xs → digits_value 10 (take i xs) * 10 + (get_or xs i 0 - 48) < 1000000000
value_fits xs i all few lt =
    let whole : digits_value 10 xs < 10 ^ length xs = digits_value-lt 10 xs (all_digits_by xs (λ k. decimal_at xs k all)) in
    let part : digits_value 10 (take (i + 1) xs) ≤ digits_value 10 xs = digits_value-take-le 10 xs (i + 1) (omega arith) in
    let top : 10 ^ length xs ≤ 1000000000 = power_le (length xs) few in
    omega (arith, value_more xs i all lt)

pub digit_there : (xs : List ℕ) (i : ℕ) → list_all is_digit xs ≡ true → i < length xs → 48 ≤ get_or xs i 0
digit_there xs i all lt = (decimal_at xs i all lt).low
