-- What holds of each element of a list: after one more, after one is changed, and of one that stands there.
use Rattle.std.proofs.Common.{◌≡◌, ℕ, zero, suc, ◌<◌, Bool, true, false, List, [], ◌∷◌, ◌++◌, length, map, Option, Some, refl, sym, ◌∙◌, ap, subst, arith}
use Rattle.std.specs.Prelude.{◌||◌, find, slice_get, slice_set, if◌then◌else◌, IsSome}
use Rattle.std.specs.List.{AllByRecursion, list_any}
use Rattle.inactive_step.proofs.Found.{found_of, found_passes}

pub push : {A : Type 0} (P : A → Type 0) (xs : List A) (x : A) → AllByRecursion P xs → P x → AllByRecursion P (xs ++ x ∷ [])
push P [] x all is = (is, tt)
push P (y ∷ xs) x all is = (all.0, push P xs x all.1 is)

pub each : {A : Type 0} (P Q : A → Type 0) (xs : List A) → ((x : A) → P x → Q x) → AllByRecursion P xs → AllByRecursion Q xs
each P Q [] from all = tt
each P Q (x ∷ xs) from all = (from x all.0, each P Q xs from all.1)

pub both : {A : Type 0} (P Q : A → Type 0) (xs : List A) → AllByRecursion P xs → AllByRecursion Q xs → AllByRecursion (λ x. P x × Q x) xs
both P Q [] all others = tt
both P Q (x ∷ xs) all others = ((all.0, others.0), both P Q xs all.1 others.1)

pub at : {A : Type 0} (P : A → Type 0) (xs : List A) (i : ℕ) (x : A) → AllByRecursion P xs → slice_get xs i ≡ Some x → P x
at P [] i x all is = absurd (cc)
at P (y ∷ xs) zero x all is = let same : y ≡ x = cc in subst P same all.0
at P (y ∷ xs) (suc i) x all is = at P xs i x all.1 is

pub set_each : {A : Type 0} (P : A → Type 0) (xs : List A) (i : ℕ) (y : A) → AllByRecursion P xs → P y → AllByRecursion P (slice_set xs i y)
set_each P [] i y all is = tt
set_each P (x ∷ xs) zero y all is = (is, all.1)
set_each P (x ∷ xs) (suc i) y all is = (all.0, set_each P xs i y all.1 is)

pub through_map : {A B : Type 0} (P : B → Type 0) (f : A → B) (xs : List A) → AllByRecursion (λ x. P (f x)) xs → AllByRecursion P (map f xs)
through_map P f [] all = tt
through_map P f (x ∷ xs) all = (all.0, through_map P f xs all.1)

pub get_front : {A : Type 0} (xs ys : List A) (i : ℕ) → i < length xs → slice_get (xs ++ ys) i ≡ slice_get xs i
get_front [] ys i lt = absurd (omega arith)
get_front (x ∷ xs) ys zero lt = refl
get_front (x ∷ xs) ys (suc i) lt = get_front xs ys i (omega arith)

pub get_end : {A : Type 0} (xs : List A) (y : A) (ys : List A) → slice_get (xs ++ y ∷ ys) (length xs) ≡ Some y
get_end [] y ys = refl
get_end (x ∷ xs) y ys = get_end xs y ys

pub record There {A : Type 0} (xs : List A) (i : ℕ) : Type 0 where
  pub elem : A
  pub is : slice_get xs i ≡ Some elem

pub there : {A : Type 0} (xs : List A) (i : ℕ) → i < length xs → There xs i
there [] i lt = absurd (omega arith)
there (x ∷ xs) zero lt = record { elem = x; is = refl }
there (x ∷ xs) (suc i) lt = let t = there xs i (omega arith) in record { elem = t.elem; is = t.is }

-- what is read of an element that is changed, but not in this
pub set_keeps : {A B : Type 0} (g : Option A → B) (xs : List A) (i : ℕ) (x y : A) → slice_get xs i ≡ Some x → g (Some y) ≡ g (Some x) → (n : ℕ)
    → g (slice_get (slice_set xs i y) n) ≡ g (slice_get xs n)
set_keeps g [] i x y is same n = absurd (cc)
set_keeps {A} g (z ∷ xs) zero x y is same zero = let here : x ≡ z = cc in same ∙ ap (λ (w : A). g (Some w)) here
set_keeps g (z ∷ xs) zero x y is same (suc n) = refl
set_keeps g (z ∷ xs) (suc i) x y is same zero = refl
set_keeps g (z ∷ xs) (suc i) x y is same (suc n) = set_keeps g xs i x y is same n

-- ---- the first that passes

pub find_passes : {A : Type 0} (p : A → Bool) (xs : List A) (x : A) → find p xs ≡ Some x → p x ≡ true
find_passes p xs x is = found_passes p xs x is

pub find_all : {A : Type 0} (P : A → Type 0) (p : A → Bool) (xs : List A) (x : A) → AllByRecursion P xs → find p xs ≡ Some x → P x
find_all P p xs x all is = found_of P p xs x all is

pub find_front : {A : Type 0} (p : A → Bool) (xs ys : List A) → IsSome (find p xs) → IsSome (find p (xs ++ ys))
find_front p [] ys some = absurd (cc)
find_front p (x ∷ xs) ys some = by (find_front p xs ys) (p x) some
  where
    by : (IsSome (find p xs) → IsSome (find p (xs ++ ys))) → (b : Bool) → IsSome (if b then Some x else find p xs) → IsSome (if b then Some x else find p (xs ++ ys))
    by rest true some = refl
    by rest false some = rest some

-- no element passes
pub none_pass : {A : Type 0} (p : A → Bool) (xs : List A) → list_any p xs ≡ false → AllByRecursion (λ x. p x ≡ false) xs
none_pass p [] none = tt
none_pass p (x ∷ xs) none = by (none_pass p xs) (p x) refl (list_any p xs) refl none
  where
    by : (list_any p xs ≡ false → AllByRecursion (λ y. p y ≡ false) xs) → (b : Bool) → p x ≡ b → (c : Bool) → list_any p xs ≡ c → (b || c) ≡ false → AllByRecursion (λ y. p y ≡ false) (x ∷ xs)
    by rest true here c others is = absurd (cc)
    by rest false here true others is = absurd (cc)
    by rest false here false others is = (here, rest others)
