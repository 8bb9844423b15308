-- The places that runs stand for: a run that is joined is written into them, and as many are filled as the runs have octets, since
-- no two runs have one position. The runs that a run meets lie side by side, and what it is with them is in their stead.
use Rattle.std.proofs.Common.{◌≡◌, ◌⊎◌, ℕ, zero, suc, ◌+◌, ◌-◌, ◌<◌, ◌≤◌, max, Bool, true, false, nat_lt, cond, count_by, List, [], ◌∷◌, ◌++◌, drop, is_some, length, replicate, slice_get, take, Option, Some, None, inl, inr, refl, sym, ap, subst, ◌∙◌, arith, length-append}
use Rattle.std.specs.List.{AllByRecursion}
use Rattle.std.proofs.lemmas.Bool.{cases_lt, ltb-false}
use Rattle.std.proofs.lemmas.List.{length-drop, length-take}
use Rattle.clnp_segment.specs.declared.runs.Run.{Run}
use Rattle.clnp_segment.specs.steps.Places.{written}
use Rattle.clnp_segment.specs.steps.Spans.{AreRuns, Rise, end_of, gathered, joined, merged, octet_in, octet_of, or_else, size, slots_from}
use Rattle.clnp_segment.proofs.Slots.{filled_none, filled_some, written_above, written_below, written_in, written_length}
use Rattle.clnp_segment.proofs.Spans.{below, from_start, inside, joins_octets, lower, past}

abbrev Slots : Type 0
Slots = List (Option ℕ)

-- ---- the places one by one
pub slots_long : (xs : List Run) (from n : ℕ) → length (slots_from xs from n) ≡ n
slots_long xs from zero = refl
slots_long xs from (suc n) = ap (λ (k : ℕ). suc k) (slots_long xs (from + 1) n)

pub slots_at : (xs : List Run) (from n i : ℕ) → i < n → slice_get (slots_from xs from n) i ≡ Some (octet_in xs (from + i))
slots_at xs from zero i low = absurd (omega (arith, low))
slots_at xs from (suc n) zero low = ap (λ (k : ℕ). Some (octet_in xs k)) (omega arith)
slots_at xs from (suc n) (suc i) low = slots_at xs (from + 1) n i (omega (arith, low)) ∙ ap (λ (k : ℕ). Some (octet_in xs k)) (omega arith)

pub slots_none : (from n : ℕ) → slots_from [] from n ≡ replicate n None
slots_none from zero = refl
slots_none from (suc n) = ap (λ (slots : Slots). None ∷ slots) (slots_none (from + 1) n)

pub same_slots : (xs ys : Slots) → length xs ≡ length ys → ((k : ℕ) → k < length xs → slice_get xs k ≡ slice_get ys k) → xs ≡ ys
same_slots [] [] long same = refl
same_slots [] (y ∷ ys) long same = absurd (omega (arith, long))
same_slots (x ∷ xs) [] long same = absurd (omega (arith, long))
same_slots (x ∷ xs) (y ∷ ys) long same =
    let head : x ≡ y = some_same x y (same zero (omega arith)) in
    let tail : xs ≡ ys = same_slots xs ys (omega (arith, long)) (λ k low. same (suc k) (omega (arith, low))) in
    λ i. head i ∷ tail i
  where
    some_same : (x y : Option ℕ) → Some x ≡ Some y → x ≡ y
    some_same x y e = cc e

-- a run that is joined is written
pub joined_written : (xs : List Run) (r : Run) (total : ℕ) → end_of r ≤ total → slots_from (joined xs r) 0 total ≡ written (slots_from xs 0 total) r.start r.octets
joined_written xs r total fits =
    same_slots (slots_from (joined xs r) 0 total) (written (slots_from xs 0 total) r.start r.octets)
    (slots_long (joined xs r) 0 total ∙ sym (written_length (slots_from xs 0 total) r.start r.octets ∙ slots_long xs 0 total))
    (λ k low. by k (subst (λ (n : ℕ). k < n) (slots_long (joined xs r) 0 total) low) (cases_lt k r.start) (cases_lt k (end_of r)))
  where
    all : Slots
    all = slots_from xs 0 total

    long : length (slots_from xs 0 total) ≡ total
    long = slots_long xs 0 total

    new : (k : ℕ) → k < total → slice_get (slots_from (joined xs r) 0 total) k ≡ Some (or_else (octet_of r k) (octet_in xs k))
    new k low = slots_at (joined xs r) 0 total k low ∙ ap (λ (n : ℕ). Some (octet_in (joined xs r) n)) (omega arith) ∙ ap Some (joins_octets xs r k)

    old : (k : ℕ) → k < total → slice_get (slots_from xs 0 total) k ≡ Some (octet_in xs k)
    old k low = slots_at xs 0 total k low ∙ ap (λ (n : ℕ). Some (octet_in xs n)) (omega arith)

    by : (k : ℕ) → k < total → (k < r.start) ⊎ (r.start ≤ k) → (k < end_of r) ⊎ (end_of r ≤ k)
        → slice_get (slots_from (joined xs r) 0 total) k ≡ slice_get (written (slots_from xs 0 total) r.start r.octets) k
    by k low (inl front) any =
        new k low ∙ ap (λ (o : Option ℕ). Some (or_else o (octet_in xs k))) (below r k front) ∙ sym (old k low)
        ∙ sym (written_below (slots_from xs 0 total) r.start r.octets k front)
    by k low (inr behind) (inr beyond) =
        new k low ∙ ap (λ (o : Option ℕ). Some (or_else o (octet_in xs k))) (past r k beyond) ∙ sym (old k low)
        ∙ sym (written_above (slots_from xs 0 total) r.start r.octets k beyond)
    by k low (inr behind) (inl within) =
        let there = inside r k behind within in
        let got : slice_get r.octets (k - r.start) ≡ Some there.0 = sym (from_start r k (k - r.start) (omega (arith, behind))) ∙ there.1 in
        let wrote : slice_get (written (slots_from xs 0 total) r.start r.octets) (r.start + (k - r.start)) ≡ Some (Some there.0) =
        written_in (slots_from xs 0 total) r.start r.octets (k - r.start) there.0 (omega (arith, fits, long)) got in
        let place : r.start + (k - r.start) ≡ k = omega (arith, behind) in
        new k low ∙ ap (λ (o : Option ℕ). Some (or_else o (octet_in xs k))) there.1
        ∙ sym (subst (λ (n : ℕ). slice_get (written (slots_from xs 0 total) r.start r.octets) n ≡ Some (Some there.0)) place wrote)

-- ---- how many are filled
count_none : (xs : List Run) (from n : ℕ) → ((i : ℕ) → i < n → octet_in xs (from + i) ≡ None) → count_by is_some (slots_from xs from n) ≡ 0
count_none xs from zero none = refl
count_none xs from (suc n) none =
    let here : octet_in xs from ≡ None = ap (octet_in xs) (omega arith) ∙ none zero (omega arith) in
    ap (λ (o : Option ℕ). count_by is_some (o ∷ slots_from xs (from + 1) n)) here ∙ filled_none (slots_from xs (from + 1) n)
    ∙ count_none xs (from + 1) n (λ i low. ap (octet_in xs) (omega arith) ∙ none (suc i) (omega (arith, low)))

count_some : (xs : List Run) (from n : ℕ) → ((i : ℕ) → i < n → (octet : ℕ) × (octet_in xs (from + i) ≡ Some octet)) → count_by is_some (slots_from xs from n) ≡ n
count_some xs from zero some = refl
count_some xs from (suc n) some =
    let first = some zero (omega arith) in
    let here : octet_in xs from ≡ Some first.0 = ap (octet_in xs) (omega arith) ∙ first.1 in
    ap (λ (o : Option ℕ). count_by is_some (o ∷ slots_from xs (from + 1) n)) here ∙ filled_some first.0 (slots_from xs (from + 1) n)
    ∙ omega (arith, count_some xs (from + 1) n (λ i low. let next = some (suc i) (omega (arith, low)) in (next.0, ap (octet_in xs) (omega arith) ∙ next.1)))

count_both : (xs : List Run) (from a b : ℕ) → count_by is_some (slots_from xs from (a + b)) ≡ count_by is_some (slots_from xs from a) + count_by is_some (slots_from xs (from + a) b)
count_both xs from zero b =
    let same : slots_from xs from (0 + b) ≡ slots_from xs (from + 0) b = ap (slots_from xs from) (omega arith) ∙ ap (λ (k : ℕ). slots_from xs k b) (omega arith) in
    ap (λ (slots : Slots). count_by is_some slots) same ∙ omega arith
count_both xs from (suc a) b =
    let next : suc a + b ≡ suc (a + b) = omega arith in
    let shift : from + 1 + a ≡ from + suc a = omega arith in
    let rest : count_by is_some (slots_from xs (from + 1) (a + b)) ≡ count_by is_some (slots_from xs (from + 1) a) + count_by is_some (slots_from xs (from + suc a) b) =
    count_both xs (from + 1) a b ∙ ap (λ (k : ℕ). count_by is_some (slots_from xs (from + 1) a) + count_by is_some (slots_from xs k b)) shift in
    ap (λ (n : ℕ). count_by is_some (slots_from xs from n)) next ∙ by (octet_in xs from) rest
  where
    by : (o : Option ℕ) → count_by is_some (slots_from xs (from + 1) (a + b)) ≡ count_by is_some (slots_from xs (from + 1) a) + count_by is_some (slots_from xs (from + suc a) b)
        → count_by is_some (o ∷ slots_from xs (from + 1) (a + b)) ≡ count_by is_some (o ∷ slots_from xs (from + 1) a) + count_by is_some (slots_from xs (from + suc a) b)
    by None rest = filled_none (slots_from xs (from + 1) (a + b)) ∙ rest ∙ ap (λ (n : ℕ). n + count_by is_some (slots_from xs (from + suc a) b)) (sym (filled_none (slots_from xs (from + 1) a)))
    by (Some octet) rest = omega (arith, rest, filled_some octet (slots_from xs (from + 1) (a + b)), filled_some octet (slots_from xs (from + 1) a))

-- before the first run there is nothing
pub none_below : (least : ℕ) (xs : List Run) (at : ℕ) → Rise least xs → at < least → octet_in xs at ≡ None
none_below least [] at rise low = refl
none_below least (x ∷ xs) at rise low =
    ap (λ (o : Option ℕ). or_else o (octet_in xs at)) (below x at (omega (arith, low, rise.0))) ∙ none_below (end_of x + 1) xs at rise.2 (omega (arith, low, rise.0))

-- behind a run the others count
tail_slots : (x : Run) (xs : List Run) (from n : ℕ) → end_of x ≤ from → slots_from (x ∷ xs) from n ≡ slots_from xs from n
tail_slots x xs from zero high = refl
tail_slots x xs from (suc n) high =
    let here : octet_in (x ∷ xs) from ≡ octet_in xs from = ap (λ (o : Option ℕ). or_else o (octet_in xs from)) (past x from high) in
    let rest : slots_from (x ∷ xs) (from + 1) n ≡ slots_from xs (from + 1) n = tail_slots x xs (from + 1) n (omega (arith, high)) in
    λ i. here i ∷ rest i

pub counted : (xs : List Run) (from n : ℕ) → Rise from xs → AllByRecursion (λ x. end_of x ≤ from + n) xs → count_by is_some (slots_from xs from n) ≡ size xs
counted [] from n rise within = count_none [] from n (λ i low. refl)
counted (x ∷ xs) from n rise within =
    let gap = x.start - from in
    let long = length x.octets in
    let rest = from + n - end_of x in
    let whole : n ≡ gap + (long + rest) = omega (arith, rise.0, within.0) in
    let start : from + gap ≡ x.start = omega (arith, rise.0) in
    let empty : count_by is_some (slots_from (x ∷ xs) from gap) ≡ 0 =
    count_none (x ∷ xs) from gap (λ i low. none_below x.start (x ∷ xs) (from + i) (omega arith, rise.1, rise.2) (omega (arith, low, rise.0))) in
    let full : count_by is_some (slots_from (x ∷ xs) (from + gap) long) ≡ long =
    count_some (x ∷ xs) (from + gap) long
    (λ i low. let there = inside x (from + gap + i) (omega (arith, start)) (omega (arith, start, low)) in
    (there.0, ap (λ (o : Option ℕ). or_else o (octet_in xs (from + gap + i))) there.1)) in
    let behind : from + gap + long ≡ end_of x = omega (arith, start) in
    let later : count_by is_some (slots_from (x ∷ xs) (from + gap + long) rest) ≡ size xs =
    ap (λ (slots : Slots). count_by is_some slots) (tail_slots x xs (from + gap + long) rest (omega (arith, behind)))
    ∙ ap (λ (k : ℕ). count_by is_some (slots_from xs k rest)) behind
    ∙ counted xs (end_of x) rest (lower (end_of x) (end_of x + 1) xs (omega arith) rise.2) (all_upto (from + n) (end_of x + rest) xs (omega (arith, within.0)) within.1) in
    ap (λ (k : ℕ). count_by is_some (slots_from (x ∷ xs) from k)) whole
    ∙ count_both (x ∷ xs) from gap (long + rest)
    ∙ omega (arith, empty, full, later, count_both (x ∷ xs) (from + gap) long rest)
  where
    all_upto : (a b : ℕ) (xs : List Run) → a ≤ b → AllByRecursion (λ x. end_of x ≤ a) xs → AllByRecursion (λ x. end_of x ≤ b) xs
    all_upto a b [] le h = tt
    all_upto a b (x ∷ xs) le h = (omega (arith, le, h.0), all_upto a b xs le h.1)

pub counted_whole : (xs : List Run) (total count : ℕ) → AreRuns xs total count → count_by is_some (slots_from xs 0 total) ≡ size xs
counted_whole xs total count h = counted xs 0 total h.rise (all_same xs h.within)
  where
    all_same : (xs : List Run) → AllByRecursion (λ x. end_of x ≤ total) xs → AllByRecursion (λ x. end_of x ≤ 0 + total) xs
    all_same [] h = tt
    all_same (x ∷ xs) h = (omega (arith, h.0), all_same xs h.1)

-- ---- sizes
pub size_both : (xs ys : List Run) → size (xs ++ ys) ≡ size xs + size ys
size_both [] ys = omega arith
size_both (x ∷ xs) ys = omega (arith, size_both xs ys)

-- ---- two that meet
pub merged_end : (x r : Run) → r.start ≤ end_of x → x.start ≤ end_of r → end_of (merged x r) ≡ max (end_of x) (end_of r)
merged_end x r near close =
    let front = take (r.start - x.start) x.octets in
    let back = drop (end_of r - x.start) x.octets in
    omega (arith, length-append front (r.octets ++ back), length-append r.octets back, length-take (r.start - x.start) x.octets, length-drop (end_of r - x.start) x.octets, near, close)

pub gathered_push : (xs : List Run) (x r : Run) → gathered (xs ++ x ∷ []) r ≡ merged x (gathered xs r)
gathered_push [] x r = refl
gathered_push (y ∷ xs) x r = gathered_push xs x (merged y r)

pub joined_within : (total : ℕ) (xs : List Run) (r : Run) → AllByRecursion (λ x. end_of x ≤ total) xs → end_of r ≤ total → AllByRecursion (λ x. end_of x ≤ total) (joined xs r)
joined_within total [] r h fits = (fits, tt)
joined_within total (x ∷ xs) r h fits =
    by (nat_lt (end_of x) r.start) (nat_lt (end_of r) x.start) refl refl (joined_within total xs r h.1 fits) (joined_within total xs (merged x r) h.1)
  where
    by : (a b : Bool) → nat_lt (end_of x) r.start ≡ a → nat_lt (end_of r) x.start ≡ b
        → AllByRecursion (λ x. end_of x ≤ total) (joined xs r) → (end_of (merged x r) ≤ total → AllByRecursion (λ x. end_of x ≤ total) (joined xs (merged x r)))
        → AllByRecursion (λ x. end_of x ≤ total) (cond a (x ∷ joined xs r) (cond b (r ∷ x ∷ xs) (joined xs (merged x r))))
    by true b one two behind met = (h.0, behind)
    by false true one two behind met = (fits, h)
    by false false one two behind met =
        met (omega (arith, merged_end x r (ltb-false (end_of x) r.start one) (ltb-false (end_of r) x.start two), h.0, fits))
