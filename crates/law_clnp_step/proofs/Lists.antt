-- Members of lists and what holds of all of them, by recursion: so that lists that are put together or changed at one place are
-- looked at once.
use Rattle.std.proofs.Common.{◌≡◌, ◌⊎◌, ℕ, ◌+◌, ◌<◌, ◌≤◌, Bool, true, false, cond, List, [], ◌∷◌, ◌++◌, length, map, refl, sym, ◌∙◌, ap, subst, inl, inr, arith, zero, suc}
use Rattle.std.specs.Prelude.{if◌then◌else◌}
use Rattle.std.specs.List.{Contains, AllByRecursion, filter}
pub use Rattle.osi_base.proofs.Members.{all_back, all_both, all_front, all_weaker}
use Rattle.law_clnp_step.specs.Sound.{IsAmong}

pub all_two : {A : Type 0} (P Q R : A → Type 0) (xs : List A) → ((x : A) → P x → Q x → R x) → AllByRecursion P xs → AllByRecursion Q xs → AllByRecursion R xs
all_two P Q R [] f h k = tt
all_two P Q R (x ∷ xs) f h k = (f x h.0 k.0, all_two P Q R xs f h.1 k.1)

pub all_from_map : {A B : Type 0} (f : A → B) (P : B → Type 0) (xs : List A) → AllByRecursion P (map f xs) → AllByRecursion (λ x. P (f x)) xs
all_from_map f P [] h = tt
all_from_map f P (x ∷ xs) h = (h.0, all_from_map f P xs h.1)

pub among_all : {A : Type 0} (P : A → Type 0) (x : A) (xs : List A) → IsAmong x xs → AllByRecursion P xs → P x
among_all P x [] h k = absurd h
among_all P x (y ∷ ys) (inl e) k = subst P (sym e) k.0
among_all P x (y ∷ ys) (inr h) k = among_all P x ys h k.1

pub all_among : {A : Type 0} (P : A → Type 0) (xs : List A) → ((x : A) → IsAmong x xs → P x) → AllByRecursion P xs
all_among P [] f = tt
all_among P (x ∷ xs) f = (f x (inl refl), all_among P xs (λ y h. f y (inr h)))

pub among_left : {A : Type 0} (x : A) (xs ys : List A) → IsAmong x xs → IsAmong x (xs ++ ys)
among_left x [] ys h = absurd h
among_left x (y ∷ xs) ys (inl e) = inl e
among_left x (y ∷ xs) ys (inr h) = inr (among_left x xs ys h)

pub among_right : {A : Type 0} (x : A) (xs ys : List A) → IsAmong x ys → IsAmong x (xs ++ ys)
among_right x [] ys h = h
among_right x (y ∷ xs) ys h = inr (among_right x xs ys h)

pub among_last : {A : Type 0} (x : A) (xs : List A) → IsAmong x (xs ++ x ∷ [])
among_last x xs = among_right x xs (x ∷ []) (inl refl)

pub among_map : {A B : Type 0} (f : A → B) (x : A) (xs : List A) → IsAmong x xs → IsAmong (f x) (map f xs)
among_map f x [] h = absurd h
among_map f x (y ∷ xs) (inl e) = inl (ap f e)
among_map f x (y ∷ xs) (inr h) = inr (among_map f x xs h)

pub contains_next : {A : Type 0} (x y : A) (xs : List A) → Contains xs x → Contains (y ∷ xs) x
contains_next x y xs h = (suc h.0, omega (arith, h.1), h.2)

pub contains_among : {A : Type 0} (x : A) (xs : List A) → IsAmong x xs → Contains xs x
contains_among x [] h = absurd h
contains_among x (y ∷ xs) (inl e) = (0, omega arith, sym e)
contains_among x (y ∷ xs) (inr h) = contains_next x y xs (contains_among x xs h)

among_at : {A : Type 0} (x : A) (xs : List A) (k : ℕ) → k < length xs → Rattle.std.specs.List.slice_index_or xs k x ≡ x → IsAmong x xs
among_at x [] k lt e = absurd (omega (arith, lt))
among_at x (y ∷ xs) zero lt e = inl (sym e)
among_at x (y ∷ xs) (suc k) lt e = inr (among_at x xs k (omega (arith, lt)) e)

pub among_contains : {A : Type 0} (x : A) (xs : List A) → Contains xs x → IsAmong x xs
among_contains x xs h = among_at x xs h.0 h.1 h.2

kept_all : {A : Type 0} (P : A → Type 0) (b : Bool) (x : A) (xs : List A) → P x → AllByRecursion P xs → AllByRecursion P (cond b (x ∷ xs) xs)
kept_all P true x xs h k = (h, k)
kept_all P false x xs h k = k

pub all_filter : {A : Type 0} (P : A → Type 0) (p : A → Bool) (xs : List A) → AllByRecursion P xs → AllByRecursion P (filter p xs)
all_filter P p [] h = tt
all_filter P p (x ∷ xs) h = kept_all P (p x) x (filter p xs) h.0 (all_filter P p xs h.1)

kept_passes : {A : Type 0} (p : A → Bool) (b : Bool) (x : A) (xs : List A) → p x ≡ b → AllByRecursion (λ y. p y ≡ true) xs → AllByRecursion (λ y. p y ≡ true) (cond b (x ∷ xs) xs)
kept_passes p true x xs e k = (e, k)
kept_passes p false x xs e k = k

pub all_passes : {A : Type 0} (p : A → Bool) (xs : List A) → AllByRecursion (λ y. p y ≡ true) (filter p xs)
all_passes p [] = tt
all_passes p (x ∷ xs) = kept_passes p (p x) x (filter p xs) refl (all_passes p xs)

here_kept : {A : Type 0} (b : Bool) (x y : A) (xs : List A) → x ≡ y → b ≡ true → IsAmong x (cond b (y ∷ xs) xs)
here_kept true x y xs e h = inl e
here_kept false x y xs e h = absurd cc

there_kept : {A : Type 0} (b : Bool) (x y : A) (xs : List A) → IsAmong x xs → IsAmong x (cond b (y ∷ xs) xs)
there_kept true x y xs h = inr h
there_kept false x y xs h = h

pub among_filter : {A : Type 0} (p : A → Bool) (x : A) (xs : List A) → IsAmong x xs → p x ≡ true → IsAmong x (filter p xs)
among_filter p x [] h e = absurd h
among_filter p x (y ∷ xs) (inl same) e = here_kept (p y) x y (filter p xs) same (ap p (sym same) ∙ e)
among_filter p x (y ∷ xs) (inr h) e = there_kept (p y) x y (filter p xs) (among_filter p x xs h e)

map_kept : {A B : Type 0} (f : A → B) (b : Bool) (x : A) (ys : List B) (xs : List A) → ys ≡ map f xs → cond b (f x ∷ ys) ys ≡ map f (cond b (x ∷ xs) xs)
map_kept f true x ys xs e = ap (λ (l : List _). f x ∷ l) e
map_kept f false x ys xs e = e

pub filter_map : {A B : Type 0} (f : A → B) (p : B → Bool) (xs : List A) → filter p (map f xs) ≡ map f (filter (λ x. p (f x)) xs)
filter_map f p [] = refl
filter_map f p (x ∷ xs) = map_kept f (p (f x)) x (filter p (map f xs)) (filter (λ y. p (f y)) xs) (filter_map f p xs)

pub map_both : {A B : Type 0} (f : A → B) (xs ys : List A) → map f (xs ++ ys) ≡ map f xs ++ map f ys
map_both f [] ys = refl
map_both f (x ∷ xs) ys = ap (λ (l : List _). f x ∷ l) (map_both f xs ys)

pub both_on : {A : Type 0} (xs ys zs : List A) → xs ++ (ys ++ zs) ≡ (xs ++ ys) ++ zs
both_on [] ys zs = refl
both_on (x ∷ xs) ys zs = ap (λ (l : List _). x ∷ l) (both_on xs ys zs)
