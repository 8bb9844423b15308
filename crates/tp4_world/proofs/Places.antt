-- The first member that passes a test.
use Rattle.std.proofs.Common.{◌≡◌, ◌||◌, cond, nat_lt, ℕ, zero, suc, ◌<◌, Bool, true, false, List, [], ◌∷◌, length, slice_get, take, Some, None, refl, sym, ◌∙◌, ap, subst, arith}
use Rattle.std.specs.List.{find, list_any, position, position_or_len}
use Rattle.std.proofs.lemmas.Option.{slice_get_within}
use Rattle.osi_base.proofs.Firsts.{none_there}

pub some_same : {A : Type 0} (x y : A) → Some x ≡ Some y → x ≡ y
some_same x y e = cc e

-- a test that fails comes before a list in which none passes
pub record NonePasses (first rest : Bool) : Type 0 where
  pub first_fails : first ≡ false
  pub rest_fails : rest ≡ false

pub none_passes : (first rest : Bool) → (first || rest) ≡ false → NonePasses first rest
none_passes true rest e = absurd cc
none_passes false rest e = record { first_fails = refl; rest_fails = e }

found_none : {A : Type 0} (p : A → Bool) (xs : List A) → list_any p xs ≡ false → find p xs ≡ None
found_none p [] none = refl
found_none p (x ∷ xs) none =
    let h = none_passes (p x) (list_any p xs) none in
    ap (λ (b : Bool). cond b (Some x) (find p xs)) h.first_fails ∙ found_none p xs h.rest_fails

pub no_first : {A : Type 0} (p : A → Bool) (xs : List A) → position p xs ≡ None → find p xs ≡ None
no_first p xs is = found_none p xs (none_there p xs is)

pub found_at : {A : Type 0} (p : A → Bool) (xs : List A) (place : ℕ) (one : A) → slice_get xs place ≡ Some one → p one ≡ true → list_any p (take place xs) ≡ false → find p xs ≡ Some one
found_at p [] place one at passes before = absurd cc
found_at p (x ∷ xs) zero one at passes before =
    let same : x ≡ one = some_same x one at in
    ap (λ (b : Bool). cond b (Some x) (find p xs)) (subst (λ y. p y ≡ true) (sym same) passes) ∙ at
found_at p (x ∷ xs) (suc place) one at passes before =
    let h = none_passes (p x) (list_any p (take place xs)) before in
    ap (λ (b : Bool). cond b (Some x) (find p xs)) h.first_fails ∙ found_at p xs place one at passes h.rest_fails

-- where a list has a first such member
pub first_is_some : {A : Type 0} (p : A → Bool) (xs : List A) (place : ℕ) → position p xs ≡ Some place → (one : A) × (slice_get xs place ≡ Some one)
first_is_some p xs place is = within_has xs place (within is)
  where
    within : position p xs ≡ Some place → place < length xs
    within is = inside (nat_lt (position_or_len p xs) (length xs)) refl is
      where
        inside : (low : Bool) → nat_lt (position_or_len p xs) (length xs) ≡ low → cond low (Some (position_or_len p xs)) None ≡ Some place → place < length xs
        inside true low is = grind arith
        inside false low is = absurd cc

    within_has : {A : Type 0} (xs : List A) (place : ℕ) → place < length xs → (one : A) × (slice_get xs place ≡ Some one)
    within_has [] place low = absurd (omega (arith, low))
    within_has (x ∷ xs) zero low = (x, refl)
    within_has (x ∷ xs) (suc place) low = within_has xs place (omega (arith, low))

-- the first such place is one of the list
pub first_within : {A : Type 0} (p : A → Bool) (xs : List A) (place : ℕ) → position p xs ≡ Some place → place < length xs
first_within p xs place is = let there = first_is_some p xs place is in slice_get_within xs place there.0 there.1
