-- Places one by one: what is written into them is found there and nowhere else, a clash is found where there is one, and the
-- places that are filled are as many more as were empty where octets are written.
use Rattle.std.proofs.Common.{◌≡◌, ◌≢◌, ◌⊎◌, ℕ, zero, suc, ◌+◌, ◌<◌, ◌≤◌, Bool, true, false, ◌||◌, List, [], ◌∷◌, ◌++◌, cond, count_by, drop, get_or, is_none, is_some, length, replicate, slice_get, slice_set, take, Option, Some, None, refl, sym, ◌∙◌, ap, subst, arith, drop-cons, add-one, inl, inr}
use Rattle.std.proofs.lemmas.Grind.{common_steps}
use Rattle.std.proofs.lemmas.Option.{slice_get-get_or}
use Rattle.std.proofs.lemmas.List.Sums.{count_by-le-length, sum_by-cons}
use Rattle.std.proofs.Math.Seq.{take-append_seam}
use Rattle.clnp_segment.specs.steps.Places.{differs, is_clash, written}

-- ---- one place is written
pub get_same : {A : Type 0} (xs : List A) (i : ℕ) (x : A) → i < length xs → slice_get (slice_set xs i x) i ≡ Some x
get_same [] i x h = absurd (omega (arith, h))
get_same (y ∷ ys) zero x h = refl
get_same (y ∷ ys) (suc i) x h = get_same ys i x (omega (arith, h))

pub get_other : {A : Type 0} (xs : List A) (i j : ℕ) (x : A) → j ≢ i → slice_get (slice_set xs i x) j ≡ slice_get xs j
get_other [] i j x h = refl
get_other (y ∷ ys) zero zero x h = absurd (h refl)
get_other (y ∷ ys) zero (suc j) x h = refl
get_other (y ∷ ys) (suc i) zero x h = refl
get_other (y ∷ ys) (suc i) (suc j) x h = get_other ys i j x (λ e. h (ap (λ (k : ℕ). suc k) e))

pub set_length : {A : Type 0} (xs : List A) (i : ℕ) (x : A) → length (slice_set xs i x) ≡ length xs
set_length [] i x = refl
set_length (y ∷ ys) zero x = refl
set_length (y ∷ ys) (suc i) x = ap (λ (n : ℕ). suc n) (set_length ys i x)

-- ---- a clash
differs_not : (first second : ℕ) → first ≢ second → differs (Some (Some first)) second ≡ true
differs_not first second h = grind (arith, common_steps, h)

differs_found : (slot : Option (Option ℕ)) (octet : ℕ) → differs slot octet ≡ true → (held : ℕ) × (slot ≡ Some (Some held)) × (held ≢ octet)
differs_found None octet h = absurd cc
differs_found (Some None) octet h = absurd cc
differs_found (Some (Some held)) octet h = (held, refl, grind (arith, common_steps, h))

or_cases : (a b : Bool) → (a || b) ≡ true → (a ≡ true) ⊎ (b ≡ true)
or_cases true b h = inl refl
or_cases false b h = inr h

pub clash_found : (slots : List (Option ℕ)) (at : ℕ) (octets : List ℕ) → is_clash slots at octets ≡ true
    → (place first second : ℕ) × (slice_get slots (at + place) ≡ Some (Some first)) × (slice_get octets place ≡ Some second) × (first ≢ second)
clash_found slots at [] h = absurd cc
clash_found slots at (octet ∷ octets) h = elim (or_cases (differs (slice_get slots at) octet) (is_clash slots (at + 1) octets) h) [
  | inl here ↦
      let found = differs_found (slice_get slots at) octet here in
      (0, found.0, octet, subst (λ (k : ℕ). slice_get slots k ≡ Some (Some found.0)) (omega arith) found.1, refl, found.2)
  | inr later ↦
      let found = clash_found slots (at + 1) octets later in
      (suc found.0, found.1, found.2, subst (λ (k : ℕ). slice_get slots k ≡ Some (Some found.1)) (omega arith) found.3, found.4, found.5)
]

or_none : (a b : Bool) → (a || b) ≡ false → (a ≡ false) × (b ≡ false)
or_none true b h = absurd cc
or_none false b h = (refl, h)

same_if : (first second : ℕ) → differs (Some (Some first)) second ≡ false → first ≡ second
same_if first second h = grind (arith, common_steps, h)

pub clash_none : (slots : List (Option ℕ)) (at : ℕ) (octets : List ℕ) (place first second : ℕ) → is_clash slots at octets ≡ false
    → slice_get slots (at + place) ≡ Some (Some first) → slice_get octets place ≡ Some second → first ≡ second
clash_none slots at [] place first second h a b = absurd cc
clash_none slots at (octet ∷ octets) zero first second h a b =
    let parts = or_none (differs (slice_get slots at) octet) (is_clash slots (at + 1) octets) h in
    let here : slice_get slots at ≡ Some (Some first) = subst (λ (k : ℕ). slice_get slots k ≡ Some (Some first)) (omega arith) a in
    let octet_is : octet ≡ second = cc in
    same_if first octet (ap (λ (s : Option (Option ℕ)). differs s octet) (sym here) ∙ parts.0) ∙ octet_is
clash_none slots at (octet ∷ octets) (suc place) first second h a b =
    let parts = or_none (differs (slice_get slots at) octet) (is_clash slots (at + 1) octets) h in
    clash_none slots (at + 1) octets place first second parts.1 (subst (λ (k : ℕ). slice_get slots k ≡ Some (Some first)) (omega arith) a) b

-- ---- what is written
pub written_length : (slots : List (Option ℕ)) (at : ℕ) (octets : List ℕ) → length (written slots at octets) ≡ length slots
written_length slots at [] = refl
written_length slots at (octet ∷ octets) = written_length (slice_set slots at (Some octet)) (at + 1) octets ∙ set_length slots at (Some octet)

pub written_below : (slots : List (Option ℕ)) (at : ℕ) (octets : List ℕ) (p : ℕ) → p < at → slice_get (written slots at octets) p ≡ slice_get slots p
written_below slots at [] p h = refl
written_below slots at (octet ∷ octets) p h =
    written_below (slice_set slots at (Some octet)) (at + 1) octets p (omega (arith, h)) ∙ get_other slots at p (Some octet) (λ e. omega (arith, h, e))

pub written_above : (slots : List (Option ℕ)) (at : ℕ) (octets : List ℕ) (p : ℕ) → at + length octets ≤ p → slice_get (written slots at octets) p ≡ slice_get slots p
written_above slots at [] p h = refl
written_above slots at (octet ∷ octets) p h =
    written_above (slice_set slots at (Some octet)) (at + 1) octets p (omega (arith, h)) ∙ get_other slots at p (Some octet) (λ e. omega (arith, h, e))

pub written_in : (slots : List (Option ℕ)) (at : ℕ) (octets : List ℕ) (place octet : ℕ) → at + length octets ≤ length slots → slice_get octets place ≡ Some octet
    → slice_get (written slots at octets) (at + place) ≡ Some (Some octet)
written_in slots at [] place octet h is = absurd cc
written_in slots at (first ∷ octets) zero octet h is =
    let same : first ≡ octet = cc in
    let here : slice_get (written (slice_set slots at (Some first)) (at + 1) octets) at ≡ Some (Some first) =
    written_below (slice_set slots at (Some first)) (at + 1) octets at (omega arith) ∙ get_same slots at (Some first) (omega (arith, h)) in
    subst (λ (k : ℕ). slice_get (written (slice_set slots at (Some first)) (at + 1) octets) k ≡ Some (Some octet)) (omega arith) (here ∙ ap (λ (o : ℕ). Some (Some o)) same)
written_in slots at (first ∷ octets) (suc place) octet h is =
    let len : length (slice_set slots at (Some first)) ≡ length slots = set_length slots at (Some first) in
    subst (λ (k : ℕ). slice_get (written (slice_set slots at (Some first)) (at + 1) octets) k ≡ Some (Some octet)) (omega arith)
    (written_in (slice_set slots at (Some first)) (at + 1) octets place octet (omega (arith, h, len)) is)

-- one octet more is compared
pub clash_next : (slots : List (Option ℕ)) (place i : ℕ) (octets : List ℕ) → place < length slots → i < length octets
    → is_clash slots place (drop i octets) ≡ (differs (Some (get_or slots place None)) (get_or octets i 0) || is_clash slots (place + 1) (drop (i + 1) octets))
clash_next slots place i octets inside here =
    let cut : drop i octets ≡ get_or octets i 0 ∷ drop (i + 1) octets = grind (arith, common_steps, drop-cons octets i 0) in
    let got : slice_get slots place ≡ Some (get_or slots place None) = slice_get-get_or slots place None inside in
    ap (λ (xs : List ℕ). is_clash slots place xs) cut ∙ ap (λ (s : Option (Option ℕ)). differs s (get_or octets i 0) || is_clash slots (place + 1) (drop (i + 1) octets)) got

-- ---- how many places are filled
pub filled_none : (slots : List (Option ℕ)) → count_by is_some (None ∷ slots) ≡ count_by is_some slots
filled_none slots = omega (arith, sum_by-cons (λ (slot : Option ℕ). cond (is_some slot) 1 0) None slots)

pub filled_some : (octet : ℕ) (slots : List (Option ℕ)) → count_by is_some (Some octet ∷ slots) ≡ 1 + count_by is_some slots
filled_some octet slots = sum_by-cons (λ (slot : Option ℕ). cond (is_some slot) 1 0) (Some octet) slots

pub empty_none : (slots : List (Option ℕ)) → count_by (is_none {T = ℕ}) (None ∷ slots) ≡ 1 + count_by (is_none {T = ℕ}) slots
empty_none slots = sum_by-cons (λ (slot : Option ℕ). cond (is_none slot) 1 0) None slots

pub empty_some : (octet : ℕ) (slots : List (Option ℕ)) → count_by (is_none {T = ℕ}) (Some octet ∷ slots) ≡ count_by (is_none {T = ℕ}) slots
empty_some octet slots = omega (arith, sum_by-cons (λ (slot : Option ℕ). cond (is_none slot) 1 0) (Some octet) slots)

count_set : (slots : List (Option ℕ)) (at octet : ℕ) → at < length slots
    → count_by is_some (slice_set slots at (Some octet)) ≡ count_by is_some slots + count_by (is_none {T = ℕ}) (take 1 (drop at slots))
count_set [] at octet h = absurd (omega (arith, h))
count_set (None ∷ slots) zero octet h =
    let one : count_by (is_none {T = ℕ}) (None ∷ []) ≡ 1 = empty_none [] in
    filled_some octet slots ∙ omega (arith, filled_none slots, one)
count_set (Some held ∷ slots) zero octet h =
    let none : count_by (is_none {T = ℕ}) (Some held ∷ []) ≡ 0 = empty_some held [] in
    filled_some octet slots ∙ omega (arith, filled_some held slots, none)
count_set (None ∷ slots) (suc at) octet h = filled_none (slice_set slots at (Some octet)) ∙ omega (arith, filled_none slots, count_set slots at octet (omega (arith, h)))
count_set (Some held ∷ slots) (suc at) octet h =
    filled_some held (slice_set slots at (Some octet)) ∙ omega (arith, filled_some held slots, count_set slots at octet (omega (arith, h)))

drop_set : (slots : List (Option ℕ)) (at : ℕ) (slot : Option ℕ) → drop (suc at) (slice_set slots at slot) ≡ drop (suc at) slots
drop_set [] at slot = refl
drop_set (x ∷ slots) zero slot = refl
drop_set (x ∷ slots) (suc at) slot = drop_set slots at slot

count_cut : (slots : List (Option ℕ)) (at n : ℕ) → at < length slots
    → count_by (is_none {T = ℕ}) (take (suc n) (drop at slots)) ≡ count_by (is_none {T = ℕ}) (take 1 (drop at slots)) + count_by (is_none {T = ℕ}) (take n (drop (suc at) slots))
count_cut [] at n h = absurd (omega (arith, h))
count_cut (None ∷ slots) zero n h =
    let one : count_by (is_none {T = ℕ}) (None ∷ []) ≡ 1 = empty_none [] in
    empty_none (take n slots) ∙ ap (λ (k : ℕ). k + count_by (is_none {T = ℕ}) (take n slots)) (sym one)
count_cut (Some held ∷ slots) zero n h =
    let none : count_by (is_none {T = ℕ}) (Some held ∷ []) ≡ 0 = empty_some held [] in
    empty_some held (take n slots) ∙ omega arith ∙ ap (λ (k : ℕ). k + count_by (is_none {T = ℕ}) (take n slots)) (sym none)
count_cut (x ∷ slots) (suc at) n h = count_cut slots at n (omega (arith, h))

pub count_written : (slots : List (Option ℕ)) (at : ℕ) (octets : List ℕ) → at + length octets ≤ length slots
    → count_by is_some (written slots at octets) ≡ count_by is_some slots + count_by (is_none {T = ℕ}) (take (length octets) (drop at slots))
count_written slots at [] h = omega arith
count_written slots at (octet ∷ octets) h =
    let set = slice_set slots at (Some octet) in
    let long : length set ≡ length slots = set_length slots at (Some octet) in
    let inside : at < length slots = omega (arith, h) in
    let rest : count_by is_some (written set (at + 1) octets) ≡ count_by is_some set + count_by (is_none {T = ℕ}) (take (length octets) (drop (at + 1) set)) =
    count_written set (at + 1) octets (omega (arith, h, long)) in
    let same : count_by (is_none {T = ℕ}) (take (length octets) (drop (at + 1) set)) ≡ count_by (is_none {T = ℕ}) (take (length octets) (drop (suc at) slots)) =
    ap (λ (n : ℕ). count_by (is_none {T = ℕ}) (take (length octets) (drop n set))) (add-one at) ∙ ap (λ (xs : List (Option ℕ)). count_by (is_none {T = ℕ}) (take (length octets) xs)) (drop_set slots at (Some octet)) in
    omega (arith, rest, same, count_set slots at octet inside, count_cut slots at (length octets) inside)

-- the empty places among those that are written
pub count_fresh : (lent slots : List (Option ℕ)) (at fresh : ℕ) (octets : List ℕ) → at + length octets ≤ length slots → lent ≡ slots
    → fresh ≡ count_by (is_none {T = ℕ}) (take (length octets) (drop at lent)) → count_by is_some (written slots at octets) ≡ count_by is_some slots + fresh
count_fresh lent slots at fresh octets h same counted =
    count_written slots at octets h
    ∙ ap (λ (k : ℕ). count_by is_some slots + k) (sym (counted ∙ ap (λ (xs : List (Option ℕ)). count_by (is_none {T = ℕ}) (take (length octets) (drop at xs))) same))

-- a whole vector is written back
pub written_back : {A : Type 0} (n : ℕ) (slots rest : List A) → n ≡ length slots → take n (slots ++ rest) ≡ slots
written_back n slots rest is = ap (λ (k : ℕ). take k (slots ++ rest)) is ∙ take-append_seam slots rest

-- all places are filled exactly where as many are filled as there are
pub all_counted : (slots : List (Option ℕ)) → count_by is_some slots ≡ length slots → (p : ℕ) → p < length slots → (octet : ℕ) × (slice_get slots p ≡ Some (Some octet))
all_counted [] h p inside = absurd (omega (arith, inside))
all_counted (None ∷ slots) h p inside = absurd (omega (arith, h, filled_none slots, count_by-le-length is_some slots))
all_counted (Some octet ∷ slots) h zero inside = (octet, refl)
all_counted (Some octet ∷ slots) h (suc p) inside = all_counted slots (omega (arith, h, filled_some octet slots)) p (omega (arith, inside))

pub counted_all : (slots : List (Option ℕ)) → ((p : ℕ) → p < length slots → (octet : ℕ) × (slice_get slots p ≡ Some (Some octet))) → count_by is_some slots ≡ length slots
counted_all [] h = refl
counted_all (None ∷ slots) h =
    let first = h 0 (omega arith) in
    let both : Some None ≡ Some (Some first.0) = first.1 in
    absurd cc
counted_all (Some octet ∷ slots) h = omega (arith, filled_some octet slots, counted_all slots (λ p inside. h (suc p) (omega (arith, inside))))

-- nothing is held at first
pub none_filled : (n : ℕ) → count_by is_some (replicate {A = Option ℕ} n None) ≡ 0
none_filled zero = refl
none_filled (suc n) = filled_none (replicate n None) ∙ none_filled n
