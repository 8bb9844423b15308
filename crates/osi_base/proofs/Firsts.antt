-- What a search in a list finds: a member that passes a test, and the first place of one.
use Rattle.std.proofs.Common.{◌≡◌, ◌||◌, not, cond, nat_lt, get_or, ℕ, zero, suc, ◌+◌, ◌<◌, ◌≤◌, Bool, true, false, List, [], ◌∷◌, length, slice_get, take, Some, None, refl, sym, ◌∙◌, ap, subst, arith}
use Rattle.std.specs.Prelude.{find}
use Rattle.std.specs.List.{All, Contains, list_any, position, position_or_len}
use Rattle.std.proofs.lemmas.Bool.{or_parts, ltb-false}
use Rattle.std.proofs.lemmas.List.Elements.{All-nil, All-cons, Contains-append_left, Contains-append_right, Contains-push}
use Rattle.std.proofs.lemmas.List.Quantifiers.{position-Some}
use Rattle.std.proofs.lemmas.Option.{get_or_from_slice_get}

module _ {X : Type 0} where
  pub none_pass : (p : X → Bool) (xs : List X) → list_any p xs ≡ false → All (λ x. p x ≡ false) xs
  none_pass p [] none = All-nil (λ x. p x ≡ false)
  none_pass p (x ∷ xs) none =
      let parts : (p x ≡ false) × (list_any p xs ≡ false) = or_parts (p x) (list_any p xs) none in
      All-cons (λ x. p x ≡ false) x xs parts.0 (none_pass p xs parts.1)

  find_by : (p : X → Bool) (x : X) (xs : List X) (y : X) (passes : Bool) → p x ≡ passes → cond passes (Some x) (find p xs) ≡ Some y
      → (find p xs ≡ Some y → Contains xs y × (p y ≡ true)) → Contains (x ∷ xs) y × (p y ≡ true)
  find_by p x xs y true passes is rest =
      let same : x ≡ y = cc in
      (subst (λ (z : X). Contains (x ∷ xs) z) same (Contains-append_left (x ∷ []) xs x (Contains-push [] x)), ap p (sym same) ∙ passes)
  find_by p x xs y false passes is rest = (Contains-append_right (x ∷ []) xs y (rest is).0, (rest is).1)

  -- what is found is there and passes
  pub find_some : (p : X → Bool) (xs : List X) (y : X) → find p xs ≡ Some y → Contains xs y × (p y ≡ true)
  find_some p [] y is = absurd cc
  find_some p (x ∷ xs) y is = find_by p x xs y (p x) refl is (find_some p xs y)

  none_by : (p : X → Bool) (x : X) (xs : List X) (passes : Bool) → p x ≡ passes → cond passes (Some x) (find p xs) ≡ None
      → (find p xs ≡ None → list_any p xs ≡ false) → list_any p (x ∷ xs) ≡ false
  none_by p x xs true passes is rest = absurd cc
  none_by p x xs false passes is rest = ap (λ (b : Bool). b || list_any p xs) passes ∙ rest is

  -- where nothing is found, nothing passes
  pub find_none : (p : X → Bool) (xs : List X) → find p xs ≡ None → list_any p xs ≡ false
  find_none p [] is = refl
  find_none p (x ∷ xs) is = none_by p x xs (p x) refl is (find_none p xs)

pub none_before : {A : Type 0} (p : A → Bool) (xs : List A) (place : ℕ) (d : A) → place < length xs → ((k : ℕ) → k < place → p (get_or xs k d) ≡ false)
    → list_any p (take place xs) ≡ false
none_before p [] place d inside h = absurd (omega (arith, inside))
none_before p (x ∷ xs) zero d inside h = refl
none_before p (x ∷ xs) (suc place) d inside h =
    ap (λ (b : Bool). b || list_any p (take place xs)) (h 0 (omega arith)) ∙ none_before p xs place d (omega (arith, inside)) (λ k low. h (suc k) (omega (arith, low)))

past_none : {A : Type 0} (p : A → Bool) (xs : List A) → length xs ≤ position_or_len p xs → list_any p xs ≡ false
past_none p [] past = refl
past_none p (x ∷ xs) past = past_by (p x) refl past (past_none p xs)
  where
    past_by : (passes : Bool) → p x ≡ passes → length (x ∷ xs) ≤ cond (not passes) (1 + position_or_len p xs) 0 → (length xs ≤ position_or_len p xs → list_any p xs ≡ false) → (p x || list_any p xs) ≡ false
    past_by true passes past rest = absurd (omega arith)
    past_by false passes past rest = ap (λ (b : Bool). b || list_any p xs) passes ∙ rest (omega arith)

-- none passes where none is found
pub none_there : {A : Type 0} (p : A → Bool) (xs : List A) → position p xs ≡ None → list_any p xs ≡ false
none_there p xs is = none_at (nat_lt (position_or_len p xs) (length xs)) refl is
  where
    none_at : (within : Bool) → nat_lt (position_or_len p xs) (length xs) ≡ within → cond within (Some (position_or_len p xs)) None ≡ None → list_any p xs ≡ false
    none_at true within is = absurd cc
    none_at false within is = past_none p xs (ltb-false (position_or_len p xs) (length xs) within)

-- the member at the first place where a test passes
pub record IsFirstAt {A : Type 0} (p : A → Bool) (xs : List A) (place : ℕ) (one : A) : Type 0 where
  pub passes : p one ≡ true
  pub before : list_any p (take place xs) ≡ false

pub first_at : {A : Type 0} (p : A → Bool) (xs : List A) (place : ℕ) (one : A) → position p xs ≡ Some place → slice_get xs place ≡ Some one → IsFirstAt p xs place one
first_at p xs place one h at =
    let is = position-Some p xs place one h in record {
      passes = subst (λ x. p x ≡ true) (get_or_from_slice_get xs place one one at) is.1;
      before = none_before p xs place one is.0 is.2;
    }
