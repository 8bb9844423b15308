-- The units that are left after a tick were there before, and none is lost that is young.
use Rattle.std.proofs.Common.{◌≡◌, ◌⊎◌, inl, inr, ℕ, zero, suc, ◌+◌, ◌≤◌, Bool, true, false, cond, List, [], ◌∷◌, le-leb, ◌∙◌, ap, arith}
use Rattle.std.specs.List.{AllByRecursion, Contains, filter}
use Rattle.std.proofs.lemmas.List.Elements.{Contains-append_cases, Contains-append_right}
use Rattle.osi_base.specs.declared.unit.Unit.{Unit as CarriedUnit}
use Rattle.osi_base.specs.Floated.{is_young}

-- one element alone
pub only : {A : Type 0} (x y : A) → Contains (y ∷ []) x → y ≡ x
only x y (zero, low, is) = is
only x y (suc k, low, is) = absurd (omega (arith, low))

pub first_or_behind : {A : Type 0} (x y : A) (xs : List A) → Contains (y ∷ xs) x → (y ≡ x) ⊎ Contains xs x
first_or_behind x y xs h = elim (Contains-append_cases (y ∷ []) xs x h) [
  | inl first ↦ inl (only x y first)
  | inr behind ↦ inr behind
]

pub first : {A : Type 0} (x y : A) (xs : List A) → y ≡ x → Contains (y ∷ xs) x
first x y xs e = (0, omega arith, e)

pub behind : {A : Type 0} (x y : A) (xs : List A) → Contains xs x → Contains (y ∷ xs) x
behind x y xs h = Contains-append_right (y ∷ []) xs x h

pub filter_was : {A : Type 0} (test : A → Bool) (x : A) (xs : List A) → Contains (filter test xs) x → Contains xs x
filter_was test x [] h = h
filter_was {A} test x (y ∷ ys) h = by (test y) (filter_was test x ys) h
  where
    by : (b : Bool) → (Contains (filter test ys) x → Contains ys x) → Contains (cond b (y ∷ filter test ys) (filter test ys)) x → Contains (y ∷ ys) x
    by true rest k = elim (first_or_behind x y (filter test ys) k) [
      | inl here ↦ first x y ys here
      | inr later ↦ behind x y ys (rest later)
    ]
    by false rest k = behind x y ys (rest k)

pub filter_has : {A : Type 0} (test : A → Bool) (x : A) (xs : List A) → Contains xs x → test x ≡ true → Contains (filter test xs) x
filter_has test x [] h e = h
filter_has {A} test x (y ∷ ys) h e = elim (first_or_behind x y ys h) [
  | inl here ↦ at (test y) (ap test here ∙ e) here
  | inr later ↦ past (test y) (filter_has test x ys later e)
]
  where
    at : (b : Bool) → b ≡ true → y ≡ x → Contains (cond b (y ∷ filter test ys) (filter test ys)) x
    at true i here = first x y (filter test ys) here
    at false i here = absurd cc

    past : (b : Bool) → Contains (filter test ys) x → Contains (cond b (y ∷ filter test ys) (filter test ys)) x
    past true k = behind x y (filter test ys) k
    past false k = k

pub all_filter : {A : Type 0} (P : A → Type 0) (test : A → Bool) (xs : List A) → AllByRecursion P xs → AllByRecursion P (filter test xs)
all_filter P test [] h = tt
all_filter {A} P test (x ∷ xs) h = by (test x) (all_filter P test xs h.1)
  where
    by : (b : Bool) → AllByRecursion P (filter test xs) → AllByRecursion P (cond b (x ∷ filter test xs) (filter test xs))
    by true rest = (h.0, rest)
    by false rest = rest

pub young_has : (now age : ℕ) (entries : List (ℕ × CarriedUnit (List ℕ))) (entry : ℕ × CarriedUnit (List ℕ)) → Contains entries entry → now ≤ entry.0 + age
    → Contains (filter (is_young now age) entries) entry
young_has now age entries entry h live = filter_has (is_young now age) entry entries h (le-leb now (entry.0 + age) live)

pub all_sooner : (now then : ℕ) (entries : List (ℕ × CarriedUnit (List ℕ))) → now ≤ then → AllByRecursion (λ entry. entry.0 ≤ now) entries → AllByRecursion (λ entry. entry.0 ≤ then) entries
all_sooner now then [] le h = tt
all_sooner now then (entry ∷ entries) le h = (omega (arith, le, h.0), all_sooner now then entries le h.1)
