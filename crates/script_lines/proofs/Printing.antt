-- Printable characters are text.
use Rattle.std.proofs.Common.{◌≡◌, ℕ, ◌<◌, ◌≤◌, Bool, true, false, List, length, get_or, refl, ap, arith, inl, inr}
use Rattle.std.specs.Prelude.{not, Some, None, cond, nat_lt, position}
use Rattle.std.specs.List.{list_all, position_or_len}
use Rattle.std.proofs.lemmas.List.Sums.{fails_before_first, position_or_len_is}
use Rattle.std.specs.Str.{IsUtf8}
use Rattle.std.proofs.lemmas.Bool.{cases_lt}
use Rattle.std.proofs.lemmas.List.{get_or_past}
use Rattle.std.proofs.lemmas.Str.{IsUtf8-from_ascii}
use Rattle.std.proofs.lemmas.Bool.Decides.{nat_tests}
use Rattle.script_lines.specs.Field.{is_printable}
use Rattle.script_lines.proofs.Digits.{passes_at}

pub at_end : (m n : ℕ) (b : Bool) → nat_lt m n ≡ b → cond b (Some m) None ≡ None → n ≤ m
at_end m n true is none = absurd (cc)
at_end m n false is none = grind (arith, nat_tests)

no_first : (p : ℕ → Bool) (xs : List ℕ) (i : ℕ) → position p xs ≡ None → i < length xs → p (get_or xs i 0) ≡ false
no_first p xs i none lt = fails_before_first p xs i 0 (let le = at_end (position_or_len p xs) (length xs) (nat_lt (position_or_len p xs) (length xs)) refl none in omega arith)

below : (c : ℕ) → not (is_printable c) ≡ false → c < 128
below c is = grind (arith, nat_tests)

pub printable_is_text : (xs : List ℕ) → position (λ octet. not (is_printable octet)) xs ≡ None → IsUtf8 xs
printable_is_text xs none = IsUtf8-from_ascii xs (λ i. elim (cases_lt i (length xs)) [
  | inl lt ↦ below _ (no_first (λ octet. not (is_printable octet)) xs i none lt)
  | inr le ↦ rw (get_or_past xs i 0 le) (omega arith)
])

none_stands : (m n : ℕ) (b : Bool) → nat_lt m n ≡ b → n ≤ m → cond b (Some m) None ≡ None
none_stands m n true is le = absurd (let lt : m < n = grind (arith, nat_tests) in omega arith)
none_stands m n false is le = refl

-- where all are printable, none is the first that is not
pub all_printable : (xs : List ℕ) → list_all is_printable xs ≡ true → position (λ octet. not (is_printable octet)) xs ≡ None
all_printable xs all =
    let at : position_or_len (λ octet. not (is_printable octet)) xs ≡ length xs =
    position_or_len_is (λ octet. not (is_printable octet)) xs (length xs) 0 (omega arith)
    (λ k lt. ap (λ (b : Bool). not b) (passes_at is_printable xs k _ lt all refl)) (λ more. absurd (omega arith)) in
    none_stands _ (length xs) _ refl (omega (arith, at))
