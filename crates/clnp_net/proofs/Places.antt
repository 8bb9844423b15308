-- A list about a place: what is before it, the member there, and the rest.
use Rattle.std.proofs.Common.{◌≡◌, ℕ, zero, suc, ◌+◌, List, [], ◌∷◌, ◌++◌, drop, slice_get, slice_set, take, Some, refl, sym, ◌∙◌, ap, add-one}

pub record Parts {A : Type 0} (xs : List A) (place : ℕ) (one : A) : Type 0 where
  pub before : List A
  pub rest : List A
  pub whole : xs ≡ before ++ one ∷ rest
  pub front : take place xs ≡ before
  pub next : take (place + 1) xs ≡ before ++ one ∷ []
  pub here : drop place xs ≡ one ∷ rest
  pub back : drop (place + 1) xs ≡ rest
  pub change : (other : A) → slice_set xs place other ≡ before ++ other ∷ rest

drop_next : {A : Type 0} (x : A) (xs : List A) (place : ℕ) → drop (suc place + 1) (x ∷ xs) ≡ drop (place + 1) xs
drop_next x xs place = ap (λ (n : ℕ). drop n (x ∷ xs)) (add-one (suc place)) ∙ ap (λ (n : ℕ). drop n xs) (sym (add-one place))

take_next : {A : Type 0} (x : A) (xs : List A) (place : ℕ) → take (suc place + 1) (x ∷ xs) ≡ x ∷ take (place + 1) xs
take_next x xs place = ap (λ (n : ℕ). take n (x ∷ xs)) (add-one (suc place)) ∙ ap (λ (n : ℕ). x ∷ take n xs) (sym (add-one place))

some_same : {A : Type 0} (x y : A) → Some x ≡ Some y → x ≡ y
some_same x y e = cc e

pub parts : {A : Type 0} (xs : List A) (place : ℕ) (one : A) → slice_get xs place ≡ Some one → Parts xs place one
parts [] place one h = absurd cc
parts {A} (x ∷ xs) zero one h =
    let same : x ≡ one = some_same x one h in
    record {
      before = [];
      rest = xs;
      whole = ap (λ (u : A). u ∷ xs) same;
      front = refl;
      next = ap (λ (u : A). u ∷ []) same;
      here = ap (λ (u : A). u ∷ xs) same;
      back = refl;
      change = λ other. refl;
    }
parts {A} (x ∷ xs) (suc place) one h =
    let p = parts xs place one h in
    record {
      before = x ∷ p.before;
      rest = p.rest;
      whole = ap (λ (us : List A). x ∷ us) p.whole;
      front = ap (λ (us : List A). x ∷ us) p.front;
      next = take_next x xs place ∙ ap (λ (us : List A). x ∷ us) p.next;
      here = p.here;
      back = drop_next x xs place ∙ p.back;
      change = λ other. ap (λ (us : List A). x ∷ us) (p.change other);
    }
