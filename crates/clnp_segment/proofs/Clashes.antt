-- A segment has another octet than what is held exactly where it has another than one of the runs that it meets: no other run has a
-- position of it.
use Rattle.std.proofs.Common.{◌≡◌, ◌⊎◌, ℕ, zero, suc, ◌+◌, ◌-◌, ◌<◌, ◌≤◌, max, min, Bool, true, false, not, nat_lt, nat_eq, MatchBool, List, [], ◌∷◌, ◌++◌, drop, get_or, length, map, slice_get, take, Option, Some, None, inl, inr, refl, sym, ap, subst, ◌∙◌, arith}
use Rattle.std.specs.Prelude.{slice_range}
use Rattle.std.specs.List.{All, AllByRecursion}
use Rattle.std.specs.Cmp.Lexicographic.{nat_list_eq_equiv, pointwise, same_text}
use Rattle.std.proofs.lemmas.Bool.{cases_lt, le-ltb}
use Rattle.std.proofs.lemmas.List.{get_or-drop, get_or-take, length-drop, length-take, take_more}
use Rattle.std.proofs.Math.Seq.{take-length}
use Rattle.std.proofs.lemmas.List.Elements.{All-from_get_or, All-from_recursion, All-get_or, All-push}
use Rattle.clnp_segment.specs.declared.runs.Run.{Run}
use Rattle.clnp_segment.specs.steps.Places.{is_clash}
use Rattle.clnp_segment.specs.steps.Spans.{Agree, AreRuns, Meets, Rise, end_of, octet_in, octet_of, or_else, size, slots_from}
use Rattle.clnp_segment.proofs.Fills.{same_slots, size_both, slots_at, slots_long}
use Rattle.clnp_segment.proofs.Meetings.{rise_start, slice_empty, slice_push}
use Rattle.clnp_segment.proofs.Slots.{clash_found, clash_none}
use Rattle.clnp_segment.proofs.Spans.{below, from_start, get_drop, get_take, inside, past}

-- ---- one run
pub some_from : (x : Run) (at one : ℕ) → octet_of x at ≡ Some one → x.start ≤ at
some_from x at one is = by (cases_lt at x.start)
  where
    by : (at < x.start) ⊎ (x.start ≤ at) → x.start ≤ at
    by (inl low) = let none : octet_of x at ≡ None = below x at low in absurd cc
    by (inr high) = high

pub some_upto : (x : Run) (at one : ℕ) → octet_of x at ≡ Some one → at < end_of x
some_upto x at one is = by (cases_lt at (end_of x))
  where
    by : (at < end_of x) ⊎ (end_of x ≤ at) → at < end_of x
    by (inl low) = low
    by (inr high) = let none : octet_of x at ≡ None = past x at high in absurd cc

same_octets : (xs ys : List ℕ) → length xs ≡ length ys → ((k : ℕ) → k < length xs → slice_get xs k ≡ slice_get ys k) → xs ≡ ys
same_octets [] [] long same = refl
same_octets [] (y ∷ ys) long same = absurd (omega (arith, long))
same_octets (x ∷ xs) [] long same = absurd (omega (arith, long))
same_octets (x ∷ xs) (y ∷ ys) long same =
    let head : x ≡ y = some_same x y (same zero (omega arith)) in
    let tail : xs ≡ ys = same_octets xs ys (omega (arith, long)) (λ k low. same (suc k) (omega (arith, low))) in
    λ i. head i ∷ tail i
  where
    some_same : (x y : ℕ) → Some x ≡ Some y → x ≡ y
    some_same x y e = cc e

-- the octet at a position of a part
part_at : (x : Run) (from to at : ℕ) → x.start ≤ from → from ≤ at → at < to
    → slice_get (slice_range x.octets (from - x.start) (to - x.start)) (at - from) ≡ octet_of x at
part_at x from to at low high inside_it =
    let there : from - x.start + (at - from) ≡ at - x.start = omega (arith, low, high) in
    get_take (to - x.start - (from - x.start)) (drop (from - x.start) x.octets) (at - from) (omega (arith, low, high, inside_it))
    ∙ get_drop (from - x.start) x.octets (at - from) ∙ ap (slice_get x.octets) there ∙ sym (from_start x at (at - x.start) (omega (arith, low, high)))

part_long : (x : Run) (from to : ℕ) → x.start ≤ from → from ≤ to → to ≤ end_of x → length (slice_range x.octets (from - x.start) (to - x.start)) ≡ to - from
part_long x from to low order high =
    omega (arith, length-take (to - x.start - (from - x.start)) (drop (from - x.start) x.octets), length-drop (from - x.start) x.octets, low, order, high)

pub clash_apart : (x r : Run) (from to : ℕ) → from ≡ max r.start x.start → to ≡ min (end_of x) (end_of r) → to ≤ from
    → MatchBool (nat_lt from to) (Agree r x → ⊥) (Agree r x)
clash_apart x r from to from_is to_is none =
    subst (λ (b : Bool). MatchBool b (Agree r x → ⊥) (Agree r x)) (sym (le-ltb from to none))
    (λ at one other held came.
    absurd (omega (arith, from_is, to_is, none, some_from x at one held, some_upto x at one held, some_from r at other came, some_upto r at other came)))

pub clash_part : (x r : Run) (from to : ℕ) (result : Bool) → from ≡ max r.start x.start → to ≡ min (end_of x) (end_of r) → from < to
    → result ≡ not (pointwise nat_eq (slice_range x.octets (from - x.start) (to - x.start)) (slice_range r.octets (from - r.start) (to - r.start)))
    → MatchBool result (Agree r x → ⊥) (Agree r x)
clash_part x r from to result from_is to_is order is =
    subst (λ (b : Bool). MatchBool b (Agree r x → ⊥) (Agree r x)) (sym is)
    (by (pointwise nat_eq (slice_range x.octets (from - x.start) (to - x.start)) (slice_range r.octets (from - r.start) (to - r.start))) refl)
  where
    some_same : (x y : ℕ) → Some x ≡ Some y → x ≡ y
    some_same x y e = cc e

    by : (same : Bool) → pointwise nat_eq (slice_range x.octets (from - x.start) (to - x.start)) (slice_range r.octets (from - r.start) (to - r.start)) ≡ same
        → MatchBool (not same) (Agree r x → ⊥) (Agree r x)
    by true same = λ at one other held came.
        let low : from ≤ at = omega (arith, from_is, some_from x at one held, some_from r at other came) in
        let high : at < to = omega (arith, to_is, some_upto x at one held, some_upto r at other came) in
        let both : slice_range x.octets (from - x.start) (to - x.start) ≡ slice_range r.octets (from - r.start) (to - r.start) =
        same_text (slice_range x.octets (from - x.start) (to - x.start)) (slice_range r.octets (from - r.start) (to - r.start)) (sym same) in
        some_same one other (sym held ∙ sym (part_at x from to at (omega (arith, from_is)) low high) ∙ ap (λ (xs : List ℕ). slice_get xs (at - from)) both
        ∙ part_at r from to at (omega (arith, from_is)) low high ∙ came)
    by false same = λ agree.
        let one : List ℕ = slice_range x.octets (from - x.start) (to - x.start) in
        let other : List ℕ = slice_range r.octets (from - r.start) (to - r.start) in
        let long : length one ≡ to - from = part_long x from to (omega (arith, from_is)) (omega (arith, order)) (omega (arith, to_is)) in
        let long_other : length other ≡ to - from = part_long r from to (omega (arith, from_is)) (omega (arith, order)) (omega (arith, to_is)) in
        let both : one ≡ other = same_octets one other (long ∙ sym long_other) (λ k low.
        let high : from + k < to = omega (arith, low, long) in
        let held = inside x (from + k) (omega (arith, from_is)) (omega (arith, to_is, high)) in
        let came = inside r (from + k) (omega (arith, from_is)) (omega (arith, to_is, high)) in
        let place : k ≡ from + k - from = omega arith in
        ap (slice_get one) place ∙ part_at x from to (from + k) (omega (arith, from_is)) (omega arith) high ∙ held.1
        ∙ ap Some (agree (from + k) held.0 came.0 held.1 came.1) ∙ sym came.1
        ∙ sym (part_at r from to (from + k) (omega (arith, from_is)) (omega arith) high) ∙ ap (slice_get other) (sym place)) in
        let clash : true ≡ false = sym (ap (λ (xs : List ℕ). pointwise nat_eq xs other) both ∙ nat_list_eq_equiv.refl other) ∙ same in
        absurd cc

-- as the code cuts them
pub clash_cut : (x r : Run) (lent given : List ℕ) (begin at from to : ℕ) (result : Bool) → lent ≡ x.octets → given ≡ r.octets → begin ≡ x.start → at ≡ r.start
    → from ≡ max r.start x.start → to ≡ min (end_of x) (end_of r) → from < to
    → result ≡ not (pointwise nat_eq (slice_range lent (from - begin) (to - begin)) (slice_range given (from - at) (to - at)))
    → MatchBool result (Agree r x → ⊥) (Agree r x)
clash_cut x r lent given begin at from to result lent_is given_is begin_is at_is from_is to_is order is =
    clash_part x r from to result from_is to_is order (is
    ∙ ap (λ (xs : List ℕ). not (pointwise nat_eq (slice_range xs (from - begin) (to - begin)) (slice_range given (from - at) (to - at)))) lent_is
    ∙ ap (λ (xs : List ℕ). not (pointwise nat_eq (slice_range x.octets (from - begin) (to - begin)) (slice_range xs (from - at) (to - at)))) given_is
    ∙ ap (λ (n : ℕ). not (pointwise nat_eq (slice_range x.octets (from - n) (to - n)) (slice_range r.octets (from - at) (to - at)))) begin_is
    ∙ ap (λ (n : ℕ). not (pointwise nat_eq (slice_range x.octets (from - x.start) (to - x.start)) (slice_range r.octets (from - n) (to - n)))) at_is)

-- one run more
pub agree_more : (r : Run) (xs : List Run) (i : ℕ) (x : Run) → i < length xs → x ≡ get_or xs i x → All (Agree r) (take i xs) → Agree r x
    → All (Agree r) (take (i + 1) xs)
agree_more r xs i x low is all here =
    subst (All (Agree r)) (ap (λ (y : Run). take i xs ++ y ∷ []) is ∙ sym (take_more xs i x low)) (All-push (Agree r) (take i xs) x all here)

-- one more of those from a place on
pub agree_next : (r : Run) (xs : List Run) (first place : ℕ) (x : Run) → first ≤ place → place < length xs → x ≡ get_or xs place x → All (Agree r) (slice_range xs first place)
    → Agree r x → All (Agree r) (slice_range xs first (place + 1))
agree_next r xs first place x order low is all here =
    subst (All (Agree r)) (ap (λ (y : Run). slice_range xs first place ++ y ∷ []) is ∙ sym (slice_push xs first place x order low))
    (All-push (Agree r) (slice_range xs first place) x all here)

-- each of those between two places
pub agree_at : (r : Run) (xs : List Run) (first last place : ℕ) (x : Run) → first ≤ place → place < last → last ≤ length xs → x ≡ get_or xs place x
    → All (Agree r) (slice_range xs first last) → Agree r x
agree_at r xs first last place x order low within is all =
    let there : first + (place - first) ≡ place = omega (arith, order) in
    let short : place - first < length (slice_range xs first last) =
    omega (arith, order, low, within, length-take (last - first) (drop first xs), length-drop first xs) in
    let same : get_or (slice_range xs first last) (place - first) x ≡ x =
    get_or-take (last - first) (drop first xs) (place - first) x (omega (arith, order, low)) ∙ get_or-drop first xs (place - first) x
    ∙ ap (λ (n : ℕ). get_or xs n x) there ∙ sym is in
    subst (Agree r) same (All-get_or (Agree r) (slice_range xs first last) (place - first) x short all)

pub agree_none : (r : Run) (xs : List Run) (first : ℕ) → All (Agree r) (slice_range xs first first)
agree_none r xs first =
    subst (All (Agree r)) (sym (slice_empty xs first)) (All-from_recursion (Agree r) [] tt)

pub agree_all : (r : Run) (xs : List Run) (i : ℕ) → i ≡ length xs → All (Agree r) (take i xs) → All (Agree r) xs
agree_all r xs i whole all = subst (All (Agree r)) (ap (λ (n : ℕ). take n xs) whole ∙ take-length xs) all

-- ---- all of them
pub in_runs : (least : ℕ) (xs : List Run) (k : ℕ) (d : Run) (at one : ℕ) → Rise least xs → k < length xs → octet_of (get_or xs k d) at ≡ Some one
    → octet_in xs at ≡ Some one
in_runs least [] k d at one rise low is = absurd (omega (arith, low))
in_runs least (x ∷ xs) zero d at one rise low is = ap (λ (o : Option ℕ). or_else o (octet_in xs at)) is
in_runs least (x ∷ xs) (suc k) d at one rise low is =
    let later : end_of x + 1 ≤ (get_or xs k d).start = rise_start (end_of x + 1) xs k d rise.2 (omega (arith, low)) in
    let none : octet_of x at ≡ None = past x at (omega (arith, later, some_from (get_or xs k d) at one is)) in
    ap (λ (o : Option ℕ). or_else o (octet_in xs at)) none ∙ in_runs (end_of x + 1) xs k d at one rise.2 (omega (arith, low)) is

-- the run that has an octet
pub record HasOctet (xs : List Run) (at one : ℕ) : Type 0 where
  pub place : ℕ
  pub within : place < length xs
  pub is : (d : Run) → octet_of (get_or xs place d) at ≡ Some one

in_some : (xs : List Run) (at one : ℕ) → octet_in xs at ≡ Some one → HasOctet xs at one
in_some [] at one is = absurd cc
in_some (x ∷ xs) at one is = by (octet_of x at) refl is (in_some xs at one)
  where
    by : (o : Option ℕ) → octet_of x at ≡ o → or_else o (octet_in xs at) ≡ Some one → (octet_in xs at ≡ Some one → HasOctet xs at one) → HasOctet (x ∷ xs) at one
    by None here is later =
        let h = later is in
        record { place = suc h.place; within = omega (arith, h.within); is = h.is }
    by (Some octet) here is later = record { place = zero; within = omega arith; is = λ d. here ∙ is }

slice_at : (xs : List Run) (first last i : ℕ) (d : Run) → i < last - first → get_or (slice_range xs first last) i d ≡ get_or xs (first + i) d
slice_at xs first last i d low = take_at (last - first) (drop first xs) i d low ∙ drop_at first xs i d
  where
    take_at : (n : ℕ) (xs : List Run) (i : ℕ) (d : Run) → i < n → get_or (take n xs) i d ≡ get_or xs i d
    take_at zero xs i d low = absurd (omega (arith, low))
    take_at (suc n) [] i d low = refl
    take_at (suc n) (x ∷ xs) zero d low = refl
    take_at (suc n) (x ∷ xs) (suc i) d low = take_at n xs i d (omega (arith, low))

    drop_at : (n : ℕ) (xs : List Run) (i : ℕ) (d : Run) → get_or (drop n xs) i d ≡ get_or xs (n + i) d
    drop_at zero xs i d = ap (λ (k : ℕ). get_or xs k d) (omega arith)
    drop_at (suc n) [] i d = refl
    drop_at (suc n) (x ∷ xs) i d = let e : suc (n + i) ≡ suc n + i = omega arith in drop_at n xs i d ∙ ap (λ (k : ℕ). get_or (x ∷ xs) k d) e

module _ (runs : List Run) (r : Run) (first last start end held total : ℕ) (rise : Rise 0 runs) (met : Meets runs r first last start end held)
    (fits : end_of r ≤ total) where
  at_slot : (at : ℕ) → at < total → slice_get (slots_from runs 0 total) at ≡ Some (octet_in runs at)
  at_slot at low = slots_at runs 0 total at low ∙ ap (λ (k : ℕ). Some (octet_in runs k)) (omega arith)

  slice_long : length (slice_range runs first last) ≡ last - first
  slice_long = omega (arith, length-take (last - first) (drop first runs), length-drop first runs, met.meeting.order, met.meeting.within)

  -- no clash, so all agree
  all_agree : is_clash (slots_from runs 0 total) r.start r.octets ≡ false → All (Agree r) (slice_range runs first last)
  all_agree none =
      All-from_get_or (Agree r) (slice_range runs first last) r (λ i low at one other held came.
      let inner : i < last - first = omega (arith, low, slice_long) in
      let there : octet_of (get_or runs (first + i) r) at ≡ Some one = ap (λ (x : Run). octet_of x at) (sym (slice_at runs first last i r inner)) ∙ held in
      let found : octet_in runs at ≡ Some one = in_runs 0 runs (first + i) r at one rise (omega (arith, inner, met.meeting.within)) there in
      let low_at : r.start ≤ at = some_from r at other came in
      let place : at ≡ r.start + (at - r.start) = omega (arith, low_at) in
      let slot : slice_get (slots_from runs 0 total) (r.start + (at - r.start)) ≡ Some (Some one) =
      ap (slice_get (slots_from runs 0 total)) (sym place) ∙ at_slot at (omega (arith, some_upto r at other came, fits)) ∙ ap Some found in
      clash_none (slots_from runs 0 total) r.start r.octets (at - r.start) one other none slot (sym (from_start r at (at - r.start) place) ∙ came))

  -- all agree, so no clash
  none_clash : All (Agree r) (slice_range runs first last) → is_clash (slots_from runs 0 total) r.start r.octets ≡ true → ⊥
  none_clash agree clash =
      let found = clash_found (slots_from runs 0 total) r.start r.octets clash in
      let at : ℕ = r.start + found.0 in
      let came : octet_of r at ≡ Some found.2 = from_start r at found.0 refl ∙ found.4 in
      let upto : at < end_of r = some_upto r at found.2 came in
      let held : octet_in runs at ≡ Some found.1 = some_inner (octet_in runs at) found.1 (sym (at_slot at (omega (arith, upto, fits))) ∙ found.3) in
      let h = in_some runs at found.1 held in
      let x : Run = get_or runs h.place r in
      let low : first ≤ h.place = not_before h.place (cases_lt h.place first) (omega arith) found.1 (h.is r) in
      let high : h.place < last = not_after h.place (cases_lt h.place last) upto h.within found.1 (h.is r) in
      let index : first + (h.place - first) ≡ h.place = omega (arith, low) in
      let inner : h.place - first < last - first = omega (arith, low, high) in
      let agrees : Agree r (get_or (slice_range runs first last) (h.place - first) r) =
      All-get_or (Agree r) (slice_range runs first last) (h.place - first) r (omega (arith, inner, slice_long)) agree in
      let same : get_or (slice_range runs first last) (h.place - first) r ≡ get_or runs h.place r =
      slice_at runs first last (h.place - first) r inner ∙ ap (λ (k : ℕ). get_or runs k r) index in
      found.5 (agrees at found.1 found.2 (ap (λ (y : Run). octet_of y at) same ∙ h.is r) came)
    where
      some_inner : (o : Option ℕ) (one : ℕ) → Some o ≡ Some (Some one) → o ≡ Some one
      some_inner o one e = cc e

      not_before : {at : ℕ} (k : ℕ) → (k < first) ⊎ (first ≤ k) → r.start ≤ at → (one : ℕ) → octet_of (get_or runs k r) at ≡ Some one → first ≤ k
      not_before k (inr high) from one is = high
      not_before {at} k (inl low) from one is = absurd (omega (arith, met.is_first.before k r low, some_upto (get_or runs k r) at one is, from))

      not_after : {at : ℕ} (k : ℕ) → (k < last) ⊎ (last ≤ k) → at < end_of r → k < length runs → (one : ℕ) → octet_of (get_or runs k r) at ≡ Some one → k < last
      not_after k (inl low) upto within one is = low
      not_after {at} k (inr high) upto within one is = absurd (omega (arith, met.after k r high within, some_from (get_or runs k r) at one is, upto))

  pub clash_is : (result : Bool) → MatchBool result (All (Agree r) (slice_range runs first last) → ⊥) (All (Agree r) (slice_range runs first last))
      → result ≡ is_clash (slots_from runs 0 total) r.start r.octets
  clash_is true h = by (is_clash (slots_from runs 0 total) r.start r.octets) refl
    where
      by : (b : Bool) → is_clash (slots_from runs 0 total) r.start r.octets ≡ b → true ≡ b
      by true is = refl
      by false is = absurd (h (all_agree is))
  clash_is false h = by (is_clash (slots_from runs 0 total) r.start r.octets) refl
    where
      by : (b : Bool) → is_clash (slots_from runs 0 total) r.start r.octets ≡ b → false ≡ b
      by true is = absurd (none_clash h is)
      by false is = refl

-- ---- one run of all
gap : (least : ℕ) (rest : List Run) (x : Run) → Rise least (rest ++ x ∷ []) → 0 < length rest → size rest + least + 1 ≤ x.start
gap least [] x rise some = absurd (omega (arith, some))
gap least (y ∷ []) x rise some = omega (arith, rise.0, rise.2.0)
gap least (y ∷ z ∷ rest) x rise some = omega (arith, rise.0, gap (end_of y + 1) (z ∷ rest) x rise.2 (omega arith))

last_within : (total : ℕ) (rest : List Run) (x : Run) → AllByRecursion (λ y. end_of y ≤ total) (rest ++ x ∷ []) → end_of x ≤ total
last_within total [] x h = h.0
last_within total (y ∷ rest) x h = last_within total rest x h.1

map_got : (octets : List ℕ) (k : ℕ) → k < length octets → slice_get (map {A = ℕ} {B = Option ℕ} Some octets) k ≡ Some (slice_get octets k)
map_got [] k low = absurd (omega (arith, low))
map_got (x ∷ octets) zero low = refl
map_got (x ∷ octets) (suc k) low = map_got octets k (omega (arith, low))

map_long : (octets : List ℕ) → length (map {A = ℕ} {B = Option ℕ} Some octets) ≡ length octets
map_long [] = refl
map_long (x ∷ octets) = ap (λ (n : ℕ). suc n) (map_long octets)

or_nothing : (o : Option ℕ) → or_else o None ≡ o
or_nothing None = refl
or_nothing (Some octet) = refl

one_whole : (x : Run) (total : ℕ) → x.start ≡ 0 → length x.octets ≡ total → slots_from (x ∷ []) 0 total ≡ map Some x.octets
one_whole x total first long =
    same_slots (slots_from (x ∷ []) 0 total) (map Some x.octets) (slots_long (x ∷ []) 0 total ∙ sym (map_long x.octets ∙ long))
    (λ k low.
    let within : k < total = subst (λ (n : ℕ). k < n) (slots_long (x ∷ []) 0 total) low in
    slots_at (x ∷ []) 0 total k within
    ∙ ap (λ (n : ℕ). Some (octet_in (x ∷ []) n)) (omega arith)
    ∙ ap Some (or_nothing (octet_of x k) ∙ from_start x k k (omega (arith, first)))
    ∙ sym (map_got x.octets k (omega (arith, within, long))))

-- of no places there is no run
pub no_run : (xs : List Run) (total : ℕ) → length xs ≡ 0 → size xs ≡ total → slots_from xs 0 total ≡ map Some []
no_run [] total none whole = ap (λ (n : ℕ). slots_from [] 0 n) (sym whole)
no_run (x ∷ xs) total none whole = absurd (omega (arith, none))

pub last_whole : (xs rest : List Run) (x : Run) (total count : ℕ) → AreRuns xs total count → xs ≡ rest ++ x ∷ [] → size xs ≡ total
    → slots_from xs 0 total ≡ map Some x.octets
last_whole xs [] x total count h is whole =
    let within : end_of x ≤ total = last_within total [] x (subst (AllByRecursion (λ y. end_of y ≤ total)) is h.within) in
    let long : size xs ≡ length x.octets + 0 = ap size is in
    ap (λ (ys : List Run). slots_from ys 0 total) is ∙ one_whole x total (omega (arith, within, whole, long)) (omega (arith, whole, long))
last_whole xs (y ∷ rest) x total count h is whole =
    let within : end_of x ≤ total = last_within total (y ∷ rest) x (subst (AllByRecursion (λ y. end_of y ≤ total)) is h.within) in
    let before : size (y ∷ rest) + 0 + 1 ≤ x.start = gap 0 (y ∷ rest) x (subst (Rise 0) is h.rise) (omega arith) in
    let long : size xs ≡ size (y ∷ rest) + (length x.octets + 0) = ap size is ∙ size_both (y ∷ rest) (x ∷ []) in
    absurd (omega (arith, within, before, whole, long))
