-- The runs that a run meets: a search finds the first, those behind it follow until one begins past its end, and what it is with
-- them is in their stead.
use Rattle.std.proofs.Common.{◌≡◌, ◌⊎◌, ℕ, zero, suc, ◌+◌, ◌-◌, ◌<◌, ◌≤◌, max, min, Bool, nat_lt, cond, count_by, is_none, is_some, List, [], ◌∷◌, ◌++◌, drop, get_or, length, replicate, slice_get, slice_set, take, Option, Some, None, inl, inr, refl, sym, ap, subst, ◌∙◌, arith, append_assoc, drop-cons, length-append}
use Rattle.std.specs.Prelude.{slice_range}
use Rattle.std.specs.List.{remove}
use Rattle.std.proofs.lemmas.Bool.{cases_lt, lt-ltb, le-ltb}
use Rattle.std.proofs.lemmas.Option.{get_or_from_slice_get, slice_get-get_or, slice_get_past, slice_get_read, slice_get_within}
use Rattle.std.proofs.lemmas.List.Sums.{count_by-le-length}
use Rattle.std.proofs.lemmas.List.{append-nil, drop-set, drop_all, get_or-set_other, get_or-set_same, get_or_default, length-replicate, set-get_or, set-set, take-append-drop, take-set, take_all, take_more, take_more_set, length-drop, length-take}
use Rattle.clnp_segment.specs.declared.runs.Run.{Run}
use Rattle.clnp_segment.specs.steps.Spans.{AreRuns, IsFirst, IsMeeting, Meets, Rise, end_of, gathered, joined, merged, size, slots_from, spanned}
use Rattle.clnp_segment.proofs.Fills.{counted_whole, gathered_push, joined_within, joined_written, merged_end, size_both, slots_long}
use Rattle.clnp_segment.proofs.Slots.{count_written}
use Rattle.clnp_segment.proofs.Spans.{joins_rise}

-- ---- runs in their order
pub rise_start : (least : ℕ) (xs : List Run) (j : ℕ) (d : Run) → Rise least xs → j < length xs → least ≤ (get_or xs j d).start
rise_start least [] j d rise low = absurd (omega (arith, low))
rise_start least (x ∷ xs) zero d rise low = rise.0
rise_start least (x ∷ xs) (suc j) d rise low = omega (arith, rise_start (end_of x + 1) xs j d rise.2 (omega (arith, low)), rise.0)

-- one that comes later begins behind the end
pub rise_next : (least : ℕ) (xs : List Run) (i j : ℕ) (d : Run) → Rise least xs → i < j → j < length xs → end_of (get_or xs i d) < (get_or xs j d).start
rise_next least [] i j d rise order low = absurd (omega (arith, low))
rise_next least (x ∷ xs) i zero d rise order low = absurd (omega (arith, order))
rise_next least (x ∷ xs) zero (suc j) d rise order low = omega (arith, rise_start (end_of x + 1) xs j d rise.2 (omega (arith, low)))
rise_next least (x ∷ xs) (suc i) (suc j) d rise order low = rise_next (end_of x + 1) xs i j d rise.2 (omega (arith, order)) (omega (arith, low))

rise_end : (least : ℕ) (xs : List Run) (i j : ℕ) (d : Run) → Rise least xs → i ≤ j → j < length xs → end_of (get_or xs i d) ≤ end_of (get_or xs j d)
rise_end least xs i j d rise order low = by (cases_lt i j)
  where
    by : (i < j) ⊎ (j ≤ i) → end_of (get_or xs i d) ≤ end_of (get_or xs j d)
    by (inl before) = omega (arith, rise_next least xs i j d rise before low)
    by (inr same) = let e : i ≡ j = omega (arith, order, same) in subst (λ (k : ℕ). end_of (get_or xs i d) ≤ end_of (get_or xs k d)) e (omega arith)

-- the octets of those before a run come before it
pub size_upto : (least : ℕ) (xs : List Run) (k : ℕ) (d : Run) → Rise least xs → k < length xs → size (take k xs) + least ≤ (get_or xs k d).start
size_upto least [] k d rise low = absurd (omega (arith, low))
size_upto least (x ∷ xs) zero d rise low = omega (arith, rise.0)
size_upto least (x ∷ xs) (suc k) d rise low = omega (arith, size_upto (end_of x + 1) xs k d rise.2 (omega (arith, low)), rise.0)

-- ---- the search
pub record IsSearch (runs : List Run) (at first past : ℕ) : Type 0 where
  pub order : first ≤ past
  pub within : past ≤ length runs
  pub before : (k : ℕ) (d : Run) → k < first → end_of (get_or runs k d) < at
  pub met : (k : ℕ) (d : Run) → past ≤ k → k < length runs → at ≤ end_of (get_or runs k d)

module _ (runs : List Run) (at first past middle : ℕ) (x : Run) (rise : Rise 0 runs) (h : IsSearch runs at first past) (low : first ≤ middle) (high : middle < past)
    (is : x ≡ get_or runs middle x) where
  same_middle : (d : Run) → get_or runs middle d ≡ x
  same_middle d = get_or_any runs middle d x (omega (arith, high, h.within)) ∙ sym is
    where
      get_or_any : (xs : List Run) (i : ℕ) (d e : Run) → i < length xs → get_or xs i d ≡ get_or xs i e
      get_or_any [] i d e h = absurd (omega (arith, h))
      get_or_any (y ∷ ys) zero d e h = refl
      get_or_any (y ∷ ys) (suc i) d e h = get_or_any ys i d e (omega (arith, h))

  pub search_behind : end_of x < at → IsSearch runs at (middle + 1) past
  search_behind before = record {
    order = omega (arith, high);
    within = h.within;
    before = λ k d under. omega (arith, rise_end 0 runs k middle d rise (omega (arith, under)) (omega (arith, high, h.within)), ap end_of (same_middle d), before);
    met = h.met;
  }

  pub search_before : at ≤ end_of x → IsSearch runs at first middle
  search_before behind = record {
    order = low;
    within = omega (arith, high, h.within);
    before = h.before;
    met = λ k d over inside. omega (arith, rise_end 0 runs middle k d rise over inside, ap end_of (same_middle d), behind);
  }

-- where the first run ends there or behind it, none ends before
pub first_of_all : (runs : List Run) (at : ℕ) (x : Run) → Rise 0 runs → 0 < length runs → x ≡ get_or runs 0 x → at ≤ end_of x → IsFirst runs at 0
first_of_all runs at x rise some is near =
    let whole : IsSearch runs at 0 (length runs) = record {
      order = omega arith;
      within = omega arith;
      before = λ k d under. absurd (omega (arith, under));
      met = λ k d over inside. absurd (omega (arith, over, inside));
    } in
    let none = search_before runs at 0 (length runs) 0 x rise whole (omega arith) some is near in
    record { within = omega arith; before = none.before; met = none.met }

-- ---- those that are met
pub slice_push : (xs : List Run) (first last : ℕ) (d : Run) → first ≤ last → last < length xs
    → slice_range xs first (last + 1) ≡ slice_range xs first last ++ get_or xs last d ∷ []
slice_push xs first last d order low =
    let count : last + 1 - first ≡ (last - first) + 1 = omega (arith, order) in
    let there : first + (last - first) ≡ last = omega (arith, order) in
    ap (λ (n : ℕ). take n (drop first xs)) count
    ∙ take_more (drop first xs) (last - first) d (omega (arith, length-drop first xs, order, low))
    ∙ ap (λ (x : Run). take (last - first) (drop first xs) ++ x ∷ []) (get_drop first xs (last - first) d ∙ ap (λ (n : ℕ). get_or xs n d) there)
  where
    get_drop : (n : ℕ) (xs : List Run) (i : ℕ) (d : Run) → get_or (drop n xs) i d ≡ get_or xs (n + i) d
    get_drop zero xs i d = ap (λ (k : ℕ). get_or xs k d) (omega arith)
    get_drop (suc n) [] i d = refl
    get_drop (suc n) (x ∷ xs) i d = let e : suc (n + i) ≡ suc n + i = omega arith in get_drop n xs i d ∙ ap (λ (k : ℕ). get_or (x ∷ xs) k d) e

pub slice_empty : (xs : List Run) (first : ℕ) → slice_range xs first first ≡ []
slice_empty xs first = let none : first - first ≡ 0 = omega arith in ap (λ (n : ℕ). take n (drop first xs)) none

drop_head : (xs : List Run) (i : ℕ) (d : Run) → i < length xs → drop i xs ≡ get_or xs i d ∷ drop (i + 1) xs
drop_head xs i d low = let next : suc i ≡ i + 1 = omega arith in drop-cons xs i d low ∙ ap (λ (n : ℕ). get_or xs i d ∷ drop n xs) next

-- ---- the front of the first and the back of the last
spanned_end : (x y r : Run) → r.start ≤ end_of x → y.start ≤ end_of r → end_of (spanned x y r) ≡ max (end_of y) (end_of r)
spanned_end x y r near close =
    let front = take (r.start - x.start) x.octets in
    let back = drop (end_of r - y.start) y.octets in
    omega (arith, length-append front (r.octets ++ back), length-append r.octets back, length-take (r.start - x.start) x.octets, length-drop (end_of r - y.start) y.octets, near, close)

spanned_next : (x z y r : Run) → r.start ≤ end_of x → z.start ≤ end_of r → end_of z ≤ end_of r → x.start ≤ y.start → merged y (spanned x z r) ≡ spanned x y r
spanned_next x z y r near close inside later =
    ap (λ (start : ℕ). record (merged y (spanned x z r)) { start = start }) first ∙ ap (λ (all : List ℕ). record (spanned x y r) { octets = all }) octets
  where
    front : List ℕ
    front = take (r.start - x.start) x.octets

    back : List ℕ
    back = drop (end_of r - y.start) y.octets

    first : min y.start (min x.start r.start) ≡ min x.start r.start
    first = omega (arith, later)

    none : take (min x.start r.start - y.start) y.octets ≡ []
    none = let zero_is : min x.start r.start - y.start ≡ 0 = omega (arith, later) in ap (λ (n : ℕ). take n y.octets) zero_is

    ending : end_of (spanned x z r) ≡ end_of r
    ending = omega (arith, spanned_end x z r near close, inside)

    whole : (spanned x z r).octets ≡ take (r.start - x.start) x.octets ++ r.octets
    whole =
        ap (λ (all : List ℕ). front ++ (r.octets ++ all)) (drop_all (end_of r - z.start) z.octets (omega (arith, inside)))
        ∙ ap (λ (all : List ℕ). front ++ all) (append-nil r.octets)

    octets : take (min x.start r.start - y.start) y.octets ++ ((spanned x z r).octets ++ drop (end_of (spanned x z r) - y.start) y.octets)
        ≡ take (r.start - x.start) x.octets ++ (r.octets ++ drop (end_of r - y.start) y.octets)
    octets =
        ap (λ (all : List ℕ). all ++ ((spanned x z r).octets ++ drop (end_of (spanned x z r) - y.start) y.octets)) none
        ∙ ap (λ (n : ℕ). (spanned x z r).octets ++ drop (n - y.start) y.octets) ending
        ∙ ap (λ (all : List ℕ). all ++ back) whole ∙ append_assoc front r.octets back

record IsReached (runs : List Run) (r : Run) (first last : ℕ) : Type 0 where
  reaches : (get_or runs last r).start ≤ end_of r
  spanned_is : gathered (slice_range runs first (last + 1)) r ≡ spanned (get_or runs first r) (get_or runs last r) r

reached : (runs : List Run) (r : Run) (first last start end held : ℕ) → Rise 0 runs → IsFirst runs r.start first → IsMeeting runs r first last start end held
    → last < length runs → (get_or runs last r).start ≤ end → IsReached runs r first last
reached runs r first last start end held rise f h low close = by (cases_lt first last)
  where
    y : Run
    y = get_or runs last r

    next : gathered (slice_range runs first (last + 1)) r ≡ merged (get_or runs last r) (gathered (slice_range runs first last) r)
    next = ap (λ (xs : List Run). gathered xs r) (slice_push runs first last r h.order low) ∙ gathered_push (slice_range runs first last) (get_or runs last r) r

    by : (first < last) ⊎ (last ≤ first) → IsReached runs r first last
    by (inr same) =
        let e : last ≡ first = omega (arith, h.order, same) in
        let none : gathered (slice_range runs first last) r ≡ r =
        ap (λ (n : ℕ). gathered (slice_range runs first n) r) e ∙ ap (λ (xs : List Run). gathered xs r) (slice_empty runs first) in
        record {
          reaches = omega (arith, close, h.end_is, ap end_of none);
          spanned_is = next ∙ ap (merged (get_or runs last r)) none ∙ ap (λ (n : ℕ). spanned (get_or runs n r) (get_or runs last r) r) e;
        }
    by (inl more) =
        let x : Run = get_or runs first r in
        let z : Run = get_or runs (last - 1) r in
        let near : r.start ≤ end_of x = f.met first r (omega arith) (omega (arith, more, low)) in
        let apart : end_of z < (get_or runs last r).start = rise_next 0 runs (last - 1) last r rise (omega (arith, more)) low in
        let later : end_of x < (get_or runs last r).start = rise_next 0 runs first last r rise more low in
        let so_far : gathered (slice_range runs first last) r ≡ spanned x z r = h.spanned_is more in
        let ending : end_of (spanned x z r) ≡ max (end_of z) (end_of r) = spanned_end x z r near (h.reaches more) in
        let reach : (get_or runs last r).start ≤ end_of r = omega (arith, close, h.end_is, ap end_of so_far, ending, apart) in
        record {
          reaches = reach;
          spanned_is = next ∙ ap (merged (get_or runs last r)) so_far
              ∙ spanned_next x z (get_or runs last r) r near (h.reaches more) (omega (arith, reach, apart)) (omega (arith, later));
        }

pub meeting_none : (runs : List Run) (r : Run) (first start end : ℕ) → IsFirst runs r.start first → start ≡ r.start → end ≡ end_of r
    → IsMeeting runs r first first start end 0
meeting_none runs r first start end h start_is end_is =
    let none : gathered (slice_range runs first first) r ≡ r = ap (λ (xs : List Run). gathered xs r) (slice_empty runs first) in
    record {
      order = omega arith;
      within = h.within;
      joined_is = ap (joined (drop first runs)) (sym none);
      start_is = start_is ∙ ap (λ (x : Run). x.start) (sym none);
      end_is = end_is ∙ ap end_of (sym none);
      low = omega (arith, start_is);
      high = omega (arith, end_is);
      held_is = ap size (sym (slice_empty runs first));
      reaches = λ more. absurd (omega (arith, more));
      spanned_is = λ more. absurd (omega (arith, more));
    }

joined_met : (x g : Run) (rest : List Run) → g.start ≤ end_of x → x.start ≤ end_of g → joined (x ∷ rest) g ≡ joined rest (merged x g)
joined_met x g rest near close =
    ap (λ (b : Bool). cond b (x ∷ joined rest g) (cond (nat_lt (end_of g) x.start) (g ∷ x ∷ rest) (joined rest (merged x g)))) (le-ltb (end_of x) g.start near)
    ∙ ap (λ (b : Bool). cond b (g ∷ x ∷ rest) (joined rest (merged x g))) (le-ltb (end_of g) x.start close)

joined_before : (x g : Run) (rest : List Run) → g.start ≤ end_of x → end_of g < x.start → joined (x ∷ rest) g ≡ g ∷ x ∷ rest
joined_before x g rest near far =
    ap (λ (b : Bool). cond b (x ∷ joined rest g) (cond (nat_lt (end_of g) x.start) (g ∷ x ∷ rest) (joined rest (merged x g)))) (le-ltb (end_of x) g.start near)
    ∙ ap (λ (b : Bool). cond b (g ∷ x ∷ rest) (joined rest (merged x g))) (lt-ltb (end_of g) x.start far)

joined_skip : (xs : List Run) (first : ℕ) (r : Run) → first ≤ length xs → ((k : ℕ) (d : Run) → k < first → end_of (get_or xs k d) < r.start)
    → joined xs r ≡ take first xs ++ joined (drop first xs) r
joined_skip xs zero r low before = refl
joined_skip [] (suc first) r low before = absurd (omega (arith, low))
joined_skip (x ∷ xs) (suc first) r low before =
    ap (λ (b : Bool). cond b (x ∷ joined xs r) (cond (nat_lt (end_of r) x.start) (r ∷ x ∷ xs) (joined xs (merged x r))))
    (lt-ltb (end_of x) r.start (before zero x (omega arith)))
    ∙ ap (λ (ys : List Run). x ∷ ys) (joined_skip xs first r (omega (arith, low)) (λ k d under. before (suc k) d (omega (arith, under))))

pub meeting_more : (runs : List Run) (r : Run) (first last start end held : ℕ) (d : Run) → Rise 0 runs → IsFirst runs r.start first → IsMeeting runs r first last start end held
    → last < length runs → (get_or runs last d).start ≤ end
    → IsMeeting runs r first (last + 1) (min start (get_or runs last d).start) (max end (end_of (get_or runs last d))) (held + length (get_or runs last d).octets)
meeting_more runs r first last start end held d rise f h low close =
    let x = get_or runs last d in
    let g = gathered (slice_range runs first last) r in
    let reaches : r.start ≤ end_of x = f.met last d h.order low in
    let near : g.start ≤ end_of x = omega (arith, h.start_is, h.low, reaches) in
    let here : x.start ≤ end_of g = omega (arith, h.end_is, close) in
    let push : slice_range runs first (last + 1) ≡ slice_range runs first last ++ x ∷ [] = slice_push runs first last d h.order low in
    let whole : gathered (slice_range runs first (last + 1)) r ≡ merged x g = ap (λ (xs : List Run). gathered xs r) push ∙ gathered_push (slice_range runs first last) x r in
    let length_is = merged_end x g near here in
    let back : last + 1 - 1 ≡ last = omega arith in
    let reach = reached runs r first last start end held rise f h low
    (subst (λ (y : Run). y.start ≤ end) (get_or_default runs last d r low) close) in
    record {
      order = omega (arith, h.order);
      within = omega (arith, low);
      joined_is = h.joined_is ∙ ap (λ (xs : List Run). joined xs g) (drop_head runs last d low) ∙ joined_met x g (drop (last + 1) runs) near here
          ∙ ap (joined (drop (last + 1) runs)) (sym whole);
      start_is = sym (ap (λ (y : Run). y.start) whole ∙ omega (arith, h.start_is));
      end_is = sym (ap end_of whole ∙ omega (arith, length_is, h.end_is));
      low = omega (arith, h.low);
      high = omega (arith, h.high);
      held_is = sym (ap size push ∙ size_both (slice_range runs first last) (x ∷ []) ∙ omega (arith, h.held_is));
      reaches = λ _. subst (λ (n : ℕ). (get_or runs n r).start ≤ end_of r) (sym back) reach.reaches;
      spanned_is = λ _. reach.spanned_is ∙ ap (λ (n : ℕ). spanned (get_or runs first r) (get_or runs n r) r) (sym back);
    }

pub meets : (runs : List Run) (r : Run) (first last start end held : ℕ) → Rise 0 runs → IsFirst runs r.start first → IsMeeting runs r first last start end held
    → ((d : Run) → last < length runs → end < (get_or runs last d).start) → Meets runs r first last start end held
meets runs r first last start end held rise f h stop = record {
  is_first = f;
  meeting = h;
  after = λ k d over inside. beyond k d over inside (cases_lt last k);
  joined_is = joined_skip runs first r f.within f.before ∙ ap (λ (xs : List Run). take first runs ++ xs) (h.joined_is ∙ rest (cases_lt last (length runs)));
}
  where
    g : Run
    g = gathered (slice_range runs first last) r

    beyond : (k : ℕ) (d : Run) → last ≤ k → k < length runs → (last < k) ⊎ (k ≤ last) → end_of r < (get_or runs k d).start
    beyond k d over inside (inl later) = omega (arith, h.high, stop d (omega (arith, over, inside)), rise_next 0 runs last k d rise later inside)
    beyond k d over inside (inr same) =
        let e : last ≡ k = omega (arith, over, same) in
        subst (λ (n : ℕ). end_of r < (get_or runs n d).start) e (omega (arith, h.high, stop d (omega (arith, over, inside))))

    none_left : (xs : List Run) (n : ℕ) → length xs ≤ n → drop n xs ≡ []
    none_left [] zero low = refl
    none_left [] (suc n) low = refl
    none_left (x ∷ xs) zero low = absurd (omega (arith, low))
    none_left (x ∷ xs) (suc n) low = none_left xs n (omega (arith, low))

    rest : (last < length runs) ⊎ (length runs ≤ last) → joined (drop last runs) (gathered (slice_range runs first last) r)
        ≡ gathered (slice_range runs first last) r ∷ drop last runs
    rest (inr all) =
        let none : drop last runs ≡ [] = none_left runs last all in
        ap (λ (xs : List Run). joined xs (gathered (slice_range runs first last) r)) none
        ∙ ap (λ (xs : List Run). gathered (slice_range runs first last) r ∷ xs) (sym none)
    rest (inl low) =
        let head : drop last runs ≡ get_or runs last r ∷ drop (last + 1) runs = drop_head runs last r low in
        ap (λ (xs : List Run). joined xs (gathered (slice_range runs first last) r)) head
        ∙ joined_before (get_or runs last r) (gathered (slice_range runs first last) r) (drop (last + 1) runs)
        (omega (arith, h.start_is, h.low, f.met last r h.order low)) (omega (arith, h.end_is, stop r low))
        ∙ ap (λ (xs : List Run). gathered (slice_range runs first last) r ∷ xs) (sym head)

-- a run of so many octets
abbrev pub some_run : ℕ → ℕ → Run
some_run at count = record { start = at; octets = replicate count 0 }

-- ---- what is in their stead
pub record IsExchanged (runs : List Run) (r : Run) (total count start end held : ℕ) : Type 0 where
  pub enough : held ≤ count
  pub order : held ≤ end - start
  pub above : start ≤ end
  pub kept : AreRuns (joined runs r) total ((count - held) + (end - start))
  pub fresh : (end - start) - held ≡ count_by (is_none {T = ℕ}) (take (length r.octets) (drop r.start (slots_from runs 0 total)))

pub parts : (runs : List Run) (first last : ℕ) → first ≤ last → size runs ≡ size (take first runs) + (size (slice_range runs first last) + size (drop last runs))
parts runs first last order =
    let middle : first + (last - first) ≡ last = omega (arith, order) in
    ap size (sym (take-append-drop first runs)) ∙ size_both (take first runs) (drop first runs)
    ∙ ap (λ (n : ℕ). size (take first runs) + n)
    (ap size (sym (take-append-drop (last - first) (drop first runs))) ∙ size_both (take (last - first) (drop first runs)) (drop (last - first) (drop first runs))
    ∙ ap (λ (xs : List Run). size (slice_range runs first last) + size xs) (drop_drop first (last - first) runs ∙ ap (λ (n : ℕ). drop n runs) middle))
  where
    drop_drop : (a b : ℕ) (xs : List Run) → drop b (drop a xs) ≡ drop (a + b) xs
    drop_drop zero b xs = ap (λ (n : ℕ). drop n xs) (omega arith)
    drop_drop (suc a) zero [] = let e : suc a ≡ suc a + 0 = omega arith in ap (λ (n : ℕ). drop {A = Run} n []) e
    drop_drop (suc a) (suc b) [] = let e : suc (a + suc b) ≡ suc a + suc b = omega arith in ap (λ (n : ℕ). drop {A = Run} n []) e
    drop_drop (suc a) b (x ∷ xs) = let e : suc (a + b) ≡ suc a + b = omega arith in drop_drop a b xs ∙ ap (λ (n : ℕ). drop n (x ∷ xs)) e

pub exchanged : (runs : List Run) (r : Run) (first last start end held total count : ℕ) → AreRuns runs total count → Meets runs r first last start end held
    → 0 < length r.octets → end_of r ≤ total → IsExchanged runs r total count start end held
exchanged runs r first last start end held total count kept met some fits =
    let g = gathered (slice_range runs first last) r in
    let new = joined runs r in
    let whole : AreRuns new total (size new) = record {
      rise = joins_rise 0 runs r kept.rise (omega arith) some;
      within = joined_within total runs r kept.within fits;
      counted = refl;
    } in
    let size_new : size new ≡ size (take first runs) + (length g.octets + size (drop last runs)) =
    ap size met.joined_is ∙ size_both (take first runs) (g ∷ drop last runs) in
    let size_old = parts runs first last met.meeting.order in
    let slots = slots_from runs 0 total in
    let filled : size new ≡ size runs + count_by (is_none {T = ℕ}) (take (length r.octets) (drop r.start slots)) =
    sym (counted_whole new total (size new) whole) ∙ ap (λ (xs : List (Option ℕ)). count_by is_some xs) (joined_written runs r total fits)
    ∙ count_written slots r.start r.octets (omega (arith, slots_long runs 0 total, fits))
    ∙ ap (λ (n : ℕ). n + count_by (is_none {T = ℕ}) (take (length r.octets) (drop r.start slots))) (counted_whole runs total count kept) in
    let extent : end ≡ start + length g.octets = met.meeting.end_is ∙ ap (λ (n : ℕ). n + length g.octets) (sym met.meeting.start_is) in
    let held_is = met.meeting.held_is in
    record {
      enough = omega (arith, held_is, size_old, kept.counted);
      order = omega (arith, extent, held_is, size_old, size_new, filled);
      above = omega (arith, extent);
      kept = record {
        rise = whole.rise;
        within = whole.within;
        counted = omega (arith, extent, held_is, size_old, size_new, kept.counted);
      };
      fresh = omega (arith, extent, held_is, size_old, size_new, filled);
    }

-- ---- one step of each loop
size_slice : (xs : List Run) (first n : ℕ) → size (take n (drop first xs)) ≤ size (take (first + n) xs)
size_slice xs zero n = let e : n ≡ 0 + n = omega arith in subst (λ (k : ℕ). size (take n xs) ≤ size (take k xs)) e (omega arith)
size_slice [] (suc first) zero = omega arith
size_slice [] (suc first) (suc n) = omega arith
size_slice (x ∷ xs) (suc first) n =
    let e : suc (first + n) ≡ suc first + n = omega arith in
    subst (λ (k : ℕ). size (take n (drop first xs)) ≤ size (take k (x ∷ xs))) e (omega (arith, size_slice xs first n))

pub held_fits : (runs : List Run) (at count first last start end held : ℕ) (x : Run) → Rise 0 runs
    → ((r : Run) → r.start ≡ at → length r.octets ≡ count → IsMeeting runs r first last start end held) → slice_get runs last ≡ Some x → held + length x.octets ≤ end_of x
held_fits runs at count first last start end held x rise met got =
    let h = met (some_run at count) refl (length-replicate count 0) in
    let low : last < length runs = slice_get_within runs last x got in
    let there : first + (last - first) ≡ last = omega (arith, h.order) in
    let upto : size (take last runs) + 0 ≤ (get_or runs last x).start = size_upto 0 runs last x rise low in
    let here : (get_or runs last x).start ≡ x.start = ap (λ (y : Run). y.start) (get_or_from_slice_get runs last x x got) in
    let part : size (slice_range runs first last) ≤ size (take last runs) =
    subst (λ (k : ℕ). size (slice_range runs first last) ≤ size (take k runs)) there (size_slice runs first (last - first)) in
    omega (arith, h.held_is, upto, here, part)

pub meeting_next : (runs : List Run) (r : Run) (first last start end held begin behind more : ℕ) (x : Run) → Rise 0 runs → IsFirst runs r.start first
    → IsMeeting runs r first last start end held → slice_get runs last ≡ Some x → x.start ≤ end → begin ≡ min start x.start → behind ≡ max end (end_of x)
    → more ≡ held + length x.octets → IsMeeting runs r first (last + 1) begin behind more
meeting_next runs r first last start end held begin behind more x rise f h got close begin_is behind_is more_is =
    let same : get_or runs last x ≡ x = get_or_from_slice_get runs last x x got in
    let next : IsMeeting runs r first (last + 1) (min start x.start) (max end (end_of x)) (held + length x.octets) =
    subst (λ (y : Run). IsMeeting runs r first (last + 1) (min start y.start) (max end (end_of y)) (held + length y.octets)) same
    (meeting_more runs r first last start end held x rise f h (slice_get_within runs last x got)
    (subst (λ (y : Run). y.start ≤ end) (sym same) close)) in
    subst (λ (n : ℕ). IsMeeting runs r first (last + 1) n behind more) (sym begin_is)
    (subst (λ (n : ℕ). IsMeeting runs r first (last + 1) (min start x.start) n more) (sym behind_is)
    (subst (λ (n : ℕ). IsMeeting runs r first (last + 1) (min start x.start) (max end (end_of x)) n) (sym more_is) next))

pub meets_before : (runs : List Run) (r : Run) (first last start end held : ℕ) (x : Run) → Rise 0 runs → IsFirst runs r.start first
    → IsMeeting runs r first last start end held → slice_get runs last ≡ Some x → end < x.start → Meets runs r first last start end held
meets_before runs r first last start end held x rise f h got far =
    meets runs r first last start end held rise f h
    (λ d low. subst (λ (y : Run). end < y.start) (sym (get_or_from_slice_get runs last x d got)) far)

pub meets_all : (runs : List Run) (r : Run) (first last start end held : ℕ) → Rise 0 runs → IsFirst runs r.start first
    → IsMeeting runs r first last start end held → slice_get runs last ≡ None → Meets runs r first last start end held
meets_all runs r first last start end held rise f h none =
    meets runs r first last start end held rise f h (λ d low. absurd (not_there low none))
  where
    not_there : last < length runs → slice_get runs last ≡ None → ⊥
    not_there low none = let found : slice_get runs last ≡ Some (get_or runs last r) = slice_get-get_or runs last r low in clash (get_or runs last r) (sym found ∙ none)
      where
        clash : (x : Run) → Some x ≡ None → ⊥
        clash x e = cc e

-- a run that begins where the last one ends meets it alone
pub meets_last : (runs : List Run) (r x : Run) (first last start end held : ℕ) → Rise 0 runs → last ≡ length runs → first + 1 ≡ last → x ≡ get_or runs first x
    → end_of x ≡ r.start → start ≡ x.start → end ≡ end_of r → held ≡ length x.octets → Meets runs r first last start end held
meets_last runs r x first last start end held rise whole next is near start_is end_is held_is =
    subst (λ (n : ℕ). Meets runs r first n start end held) next
    (meets_all runs r first (first + 1) start end held rise none
    (meeting_next runs r first first r.start (end_of r) 0 start end held x rise none (meeting_none runs r first r.start (end_of r) none refl refl) got
    (omega (arith, near)) (omega (arith, near, start_is)) (omega (arith, near, end_is)) (omega (arith, held_is)))
    (slice_get_past runs (first + 1) (omega (arith, whole, next))))
  where
    got : slice_get runs first ≡ Some x
    got = slice_get_read runs (length runs) first x refl (omega (arith, whole, next)) is

    here : (d : Run) → get_or runs first d ≡ x
    here d = get_or_from_slice_get runs first x d got

    none : IsFirst runs r.start first
    none = record {
      within = omega (arith, whole, next);
      before = λ k d under. omega (arith, rise_next 0 runs k first d rise under (omega (arith, whole, next)), ap (λ (y : Run). y.start) (here d), near);
      met = λ k d over inside.
          let e : k ≡ first = omega (arith, over, inside, whole, next) in
          omega (arith, ap (λ (n : ℕ). end_of (get_or runs n d)) e, ap end_of (here d), near);
    }

-- ---- those that are met go, and one is in their stead
remove_parts : (xs : List Run) (i : ℕ) → remove xs i ≡ take i xs ++ drop (i + 1) xs
remove_parts [] zero = refl
remove_parts [] (suc i) = sym (drop_all (suc i + 1) [] (omega arith))
remove_parts (x ∷ xs) zero = refl
remove_parts (x ∷ xs) (suc i) =
    let e : suc (i + 1) ≡ suc i + 1 = omega arith in
    ap (λ (ys : List Run). x ∷ ys) (remove_parts xs i) ∙ ap (λ (n : ℕ). x ∷ take i xs ++ drop n (x ∷ xs)) e

pub removed : (xs : List Run) (first last : ℕ) → last - first ≡ 1 → remove xs first ≡ take first xs ++ drop last xs
removed xs first last one =
    let next : first + 1 ≡ last = omega (arith, one) in
    remove_parts xs first ∙ ap (λ (n : ℕ). take first xs ++ drop n xs) next

drop_set : (xs : List Run) (i n : ℕ) (x : Run) → i < n → drop n (slice_set xs i x) ≡ drop n xs
drop_set [] i n x low = refl
drop_set (y ∷ xs) zero zero x low = absurd (omega (arith, low))
drop_set (y ∷ xs) zero (suc n) x low = refl
drop_set (y ∷ xs) (suc i) zero x low = absurd (omega (arith, low))
drop_set (y ∷ xs) (suc i) (suc n) x low = drop_set xs i n x (omega (arith, low))

pub going_done : (old items : List Run) (first last : ℕ) (run : Run) → first < last → last ≤ length old
    → items ≡ take (first + 1) (slice_set old first run) ++ drop last (slice_set old first run) → items ≡ take first old ++ run ∷ drop last old
going_done old items first last run order low is =
    is ∙ ap (λ (xs : List Run). xs ++ drop last (slice_set old first run)) (take_more_set old first run (omega (arith, order, low)))
    ∙ ap (λ (xs : List Run). (take first old ++ run ∷ []) ++ xs) (drop_set old first last run order)
    ∙ append_assoc (take first old) (run ∷ []) (drop last old)

pub few : (xs : List Run) (total count : ℕ) → AreRuns xs total count → count ≤ total
few xs total count h = omega (arith, h.counted, counted_whole xs total count h, count_by-le-length is_some (slots_from xs 0 total), slots_long xs 0 total)

-- ---- the first is taken up, and goes on with the others' back
pub lengthened : (runs : List Run) (first last : ℕ) (x y nothing r : Run) (all : List ℕ) → first < last → last ≤ length runs → x ≡ get_or runs first x
    → nothing.octets ≡ [] → y ≡ get_or (slice_set runs first nothing) (last - 1) y → x.start ≤ r.start → (last - first ≡ 1 → end_of x ≤ end_of r)
    → all ≡ take (r.start - x.start) x.octets ++ (r.octets ++ drop (end_of r - y.start) y.octets)
    → slice_set (slice_set runs first nothing) first (record x { octets = all }) ≡ slice_set runs first (spanned (get_or runs first r) (get_or runs (last - 1) r) r)
lengthened runs first last x y nothing r all order within there none after before reach is =
    set-set runs first nothing (record x { octets = all }) ∙ ap (slice_set runs first) whole
  where
    low : first < length runs
    low = omega (arith, order, within)

    z : Run
    z = get_or runs (last - 1) r

    held : get_or runs first r ≡ x
    held = get_or_default runs first r x low ∙ sym there

    back : (first < last - 1) ⊎ (last - 1 ≤ first) → drop (end_of r - y.start) y.octets ≡ drop (end_of r - (get_or runs (last - 1) r).start) (get_or runs (last - 1) r).octets
    back (inl apart) =
        let same : y ≡ get_or runs (last - 1) r =
        after ∙ get_or-set_other runs first (last - 1) nothing y (λ e. omega (arith, apart, e)) ∙ get_or_default runs (last - 1) y r (omega (arith, order, within)) in
        ap (λ (run : Run). drop (end_of r - run.start) run.octets) same
    back (inr one) =
        let e : last - 1 ≡ first = omega (arith, order, one) in
        let empty : y ≡ nothing = after ∙ ap (λ (n : ℕ). get_or (slice_set runs first nothing) n y) e ∙ get_or-set_same runs first nothing y low in
        let self : get_or runs (last - 1) r ≡ x = ap (λ (n : ℕ). get_or runs n r) e ∙ held in
        let gone : drop (end_of r - x.start) x.octets ≡ [] = drop_all (end_of r - x.start) x.octets (omega (arith, reach (omega (arith, order, e)))) in
        ap (λ (run : Run). drop (end_of r - run.start) run.octets) empty ∙ drop_all (end_of r - nothing.start) nothing.octets (omega (arith, ap (λ (xs : List ℕ). length xs) none))
        ∙ sym (ap (λ (run : Run). drop (end_of r - run.start) run.octets) self ∙ gone)

    start : x.start ≡ min x.start r.start
    start = omega (arith, before)

    octets : all ≡ take (r.start - x.start) x.octets ++ (r.octets ++ drop (end_of r - (get_or runs (last - 1) r).start) (get_or runs (last - 1) r).octets)
    octets = is ∙ ap (λ (xs : List ℕ). take (r.start - x.start) x.octets ++ (r.octets ++ xs)) (back (cases_lt first (last - 1)))

    whole : record x { octets = all } ≡ spanned (get_or runs first r) (get_or runs (last - 1) r) r
    whole =
        ap (λ (n : ℕ). record x { start = n; octets = all }) start ∙ ap (λ (xs : List ℕ). record (spanned x (get_or runs (last - 1) r) r) { octets = xs }) octets
        ∙ ap (λ (run : Run). spanned run (get_or runs (last - 1) r) r) (sym held)

pub put_back : (runs : List Run) (first : ℕ) (x nothing : Run) (all : List ℕ) → first < length runs → x ≡ get_or runs first x → all ≡ x.octets
    → slice_set (slice_set runs first nothing) first (record x { octets = all }) ≡ runs
put_back runs first x nothing all low there is =
    set-set runs first nothing (record x { octets = all }) ∙ ap (λ (xs : List ℕ). slice_set runs first (record x { octets = xs })) is
    ∙ ap (slice_set runs first) there ∙ set-get_or runs first x

-- ---- a run that begins where the one run that it meets ends
set_whole : (xs : List Run) (at : ℕ) (y : Run) → at < length xs → slice_set xs at y ≡ take at xs ++ y ∷ drop (at + 1) xs
set_whole xs at y low =
    sym (take-append-drop at (slice_set xs at y))
    ∙ ap (λ (front : List Run). front ++ drop at (slice_set xs at y)) (take-set xs at y)
    ∙ ap (λ (back : List Run). take at xs ++ back) (drop-set xs at y low)

merged_behind : (x r : Run) → end_of x ≡ r.start → merged x r ≡ record x { octets = x.octets ++ r.octets }
merged_behind x r near =
    ap (λ (start : ℕ). record (merged x r) { start = start }) first ∙ ap (λ (all : List ℕ). record x { octets = all }) octets
  where
    first : min x.start r.start ≡ x.start
    first = omega (arith, near)

    octets : take (r.start - x.start) x.octets ++ (r.octets ++ drop (end_of r - x.start) x.octets) ≡ x.octets ++ r.octets
    octets =
        ap (λ (front : List ℕ). front ++ (r.octets ++ drop (end_of r - x.start) x.octets)) (take_all (r.start - x.start) x.octets (omega (arith, near)))
        ∙ ap (λ (back : List ℕ). x.octets ++ (r.octets ++ back)) (drop_all (end_of r - x.start) x.octets (omega (arith, near)))
        ∙ ap (λ (back : List ℕ). x.octets ++ back) (append-nil r.octets)

pub extended : (runs : List Run) (first last : ℕ) (x r new : Run) → last - first ≡ 1 → last ≤ length runs → x ≡ get_or runs first x → end_of x ≡ r.start
    → new ≡ record x { octets = x.octets ++ r.octets } → slice_set runs first new ≡ take first runs ++ gathered (slice_range runs first last) r ∷ drop last runs
extended runs first last x r new one within there near is =
    let next : last ≡ first + 1 = omega (arith, one) in
    let low : first < length runs = omega (arith, one, within) in
    let met : slice_range runs first last ≡ x ∷ [] =
    ap (λ (k : ℕ). slice_range runs first k) next ∙ slice_push runs first first x (omega arith) low
    ∙ ap (λ (xs : List Run). xs ++ get_or runs first x ∷ []) (slice_empty runs first)
    ∙ ap (λ (y : Run). y ∷ []) (sym there) in
    let whole : new ≡ gathered (slice_range runs first last) r = is ∙ sym (merged_behind x r near) ∙ sym (ap (λ (xs : List Run). gathered xs r) met) in
    set_whole runs first new low
    ∙ ap (λ (k : ℕ). take first runs ++ new ∷ drop k runs) (sym next)
    ∙ ap (λ (y : Run). take first runs ++ y ∷ drop last runs) whole
