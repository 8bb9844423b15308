-- The members of a list: what holds of each, over lists that are put together, and where no two have one key.
use Rattle.std.proofs.Common.{◌≡◌, ◌⊎◌, ℕ, zero, suc, List, [], ◌∷◌, ◌++◌, take, drop, ap, inl, inr, sym, ◌∙◌, arith}
use Rattle.std.specs.List.{AllByRecursion, Contains}
use Rattle.std.proofs.lemmas.List.Elements.{Contains-append_cases, Contains-push_cases}

pub all_both : {A : Type 0} (P : A → Type 0) (xs ys : List A) → AllByRecursion P xs → AllByRecursion P ys → AllByRecursion P (xs ++ ys)
all_both P [] ys h k = k
all_both P (x ∷ xs) ys h k = (h.0, all_both P xs ys h.1 k)

pub all_front : {A : Type 0} (P : A → Type 0) (xs ys : List A) → AllByRecursion P (xs ++ ys) → AllByRecursion P xs
all_front P [] ys h = tt
all_front P (x ∷ xs) ys h = (h.0, all_front P xs ys h.1)

pub all_back : {A : Type 0} (P : A → Type 0) (xs ys : List A) → AllByRecursion P (xs ++ ys) → AllByRecursion P ys
all_back P [] ys h = h
all_back P (x ∷ xs) ys h = all_back P xs ys h.1

pub all_drop : {A : Type 0} (P : A → Type 0) (n : ℕ) (xs : List A) → AllByRecursion P xs → AllByRecursion P (drop n xs)
all_drop P zero xs h = h
all_drop P (suc n) [] h = tt
all_drop P (suc n) (x ∷ xs) h = all_drop P n xs h.1

pub all_take : {A : Type 0} (P : A → Type 0) (n : ℕ) (xs : List A) → AllByRecursion P xs → AllByRecursion P (take n xs)
all_take P zero xs h = tt
all_take P (suc n) [] h = tt
all_take P (suc n) (x ∷ xs) h = (h.0, all_take P n xs h.1)

pub all_weaker : {A : Type 0} (P Q : A → Type 0) (xs : List A) → ((x : A) → P x → Q x) → AllByRecursion P xs → AllByRecursion Q xs
all_weaker P Q [] f h = tt
all_weaker P Q (x ∷ xs) f h = (f x h.0, all_weaker P Q xs f h.1)

pub contains_cases : {A : Type 0} (x : A) (xs : List A) (y : A) → Contains (x ∷ xs) y → (x ≡ y) ⊎ Contains xs y
contains_cases x xs y there =
    elim (Contains-append_cases (x ∷ []) xs y there) [
      | inl here ↦ elim (Contains-push_cases [] x y here) [ inl none ↦ inr (absurd (omega (arith, none.1))) | inr is ↦ inl is ]
      | inr rest ↦ inr rest
    ]

-- where no member has the key of one before it, members of one key are one
pub one_member : {A K : Type 0} (key : A → K) (Apart : List A → Type 0) (rest : (x : A) (xs : List A) → Apart (x ∷ xs) → Apart xs)
    (other : (x : A) (xs : List A) (y : A) → Apart (x ∷ xs) → Contains xs y → key y ≡ key x → ⊥) (xs : List A) (first second : A)
    → Apart xs → Contains xs first → Contains xs second → key first ≡ key second → first ≡ second
one_member key Apart rest other [] first second apart one two same = absurd (omega (arith, one.1))
one_member key Apart rest other (x ∷ xs) first second apart one two same =
    elim (contains_cases x xs first one) [
      | inl is ↦ elim (contains_cases x xs second two) [
        | inl also ↦ sym is ∙ also
        | inr later ↦ absurd (other x xs second apart later (sym same ∙ sym (ap key is)))
      ]
      | inr later ↦ elim (contains_cases x xs second two) [
        | inl also ↦ absurd (other x xs first apart later (same ∙ sym (ap key also)))
        | inr behind ↦ one_member key Apart rest other xs first second (rest x xs apart) later behind same
      ]
    ]
