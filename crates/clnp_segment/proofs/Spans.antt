-- A run that is joined with others has its octets, and those of the others elsewhere.
use Rattle.std.proofs.Common.{◌≡◌, ◌⊎◌, ℕ, zero, suc, ◌+◌, ◌-◌, ◌<◌, ◌≤◌, min, Bool, true, false, nat_lt, cond, List, [], ◌∷◌, ◌++◌, length, take, drop, Option, Some, None, slice_get, inl, inr, refl, sym, ap, ◌∙◌, arith, length-append}
use Rattle.std.proofs.lemmas.Bool.{cases_lt, ltb-true, ltb-false, lt-ltb, le-ltb}
use Rattle.std.proofs.lemmas.List.{length-take}
use Rattle.clnp_segment.specs.declared.runs.Run.{Run}
use Rattle.clnp_segment.specs.steps.Spans.{Rise, end_of, joined, merged, octet_in, octet_of, or_else}

-- ---- lists

pub get_past : (xs : List ℕ) (i : ℕ) → length xs ≤ i → slice_get xs i ≡ None
get_past [] i h = refl
get_past (x ∷ xs) zero h = absurd (omega (arith, h))
get_past (x ∷ xs) (suc i) h = get_past xs i (omega (arith, h))

pub get_front : (xs ys : List ℕ) (i : ℕ) → i < length xs → slice_get (xs ++ ys) i ≡ slice_get xs i
get_front [] ys i h = absurd (omega (arith, h))
get_front (x ∷ xs) ys zero h = refl
get_front (x ∷ xs) ys (suc i) h = get_front xs ys i (omega (arith, h))

pub get_back : (xs ys : List ℕ) (i : ℕ) → slice_get (xs ++ ys) (length xs + i) ≡ slice_get ys i
get_back [] ys i = let e : 0 + i ≡ i = omega arith in ap (slice_get ys) e
get_back (x ∷ xs) ys i = let e : suc (length xs) + i ≡ suc (length xs + i) = omega arith in ap (slice_get (x ∷ (xs ++ ys))) e ∙ get_back xs ys i

pub get_take : (n : ℕ) (xs : List ℕ) (i : ℕ) → i < n → slice_get (take n xs) i ≡ slice_get xs i
get_take zero xs i h = absurd (omega (arith, h))
get_take (suc n) [] i h = refl
get_take (suc n) (x ∷ xs) zero h = refl
get_take (suc n) (x ∷ xs) (suc i) h = get_take n xs i (omega (arith, h))

pub get_drop : (n : ℕ) (xs : List ℕ) (i : ℕ) → slice_get (drop n xs) i ≡ slice_get xs (n + i)
get_drop zero xs i = let e : i ≡ 0 + i = omega arith in ap (slice_get xs) e
get_drop (suc n) [] i = refl
get_drop (suc n) (x ∷ xs) i = let e : suc (n + i) ≡ suc n + i = omega arith in get_drop n xs i ∙ ap (slice_get (x ∷ xs)) e

pub get_in : (xs : List ℕ) (i : ℕ) → i < length xs → (x : ℕ) × (slice_get xs i ≡ Some x)
get_in [] i h = absurd (omega (arith, h))
get_in (x ∷ xs) zero h = (x, refl)
get_in (x ∷ xs) (suc i) h = get_in xs i (omega (arith, h))

-- ---- one run

pub below : (x : Run) (at : ℕ) → at < x.start → octet_of x at ≡ None
below x at h = ap (λ (b : Bool). cond b None (slice_get x.octets (at - x.start))) (lt-ltb at x.start h)

pub from_start : (x : Run) (at i : ℕ) → at ≡ x.start + i → octet_of x at ≡ slice_get x.octets i
from_start x at i h =
    let off : at - x.start ≡ i = omega (arith, h) in
    ap (λ (b : Bool). cond b None (slice_get x.octets (at - x.start))) (le-ltb at x.start (omega (arith, h))) ∙ ap (slice_get x.octets) off

pub past : (x : Run) (at : ℕ) → end_of x ≤ at → octet_of x at ≡ None
past x at h = from_start x at (at - x.start) (omega (arith, h)) ∙ get_past x.octets (at - x.start) (omega (arith, h))

pub inside : (x : Run) (at : ℕ) → x.start ≤ at → at < end_of x → (octet : ℕ) × (octet_of x at ≡ Some octet)
inside x at low high =
    let found = get_in x.octets (at - x.start) (omega (arith, low, high)) in
    (found.0, from_start x at (at - x.start) (omega (arith, low)) ∙ found.1)

-- ---- two runs that meet

module _ (x r : Run) (near : r.start ≤ end_of x) (close : x.start ≤ end_of r) where
  abbrev front : List ℕ
  front = take (r.start - x.start) x.octets

  abbrev back : List ℕ
  back = drop (end_of r - x.start) x.octets

  front_long : length front ≡ r.start - x.start
  front_long = omega (arith, length-take (r.start - x.start) x.octets, near)

  -- before the second
  in_front : (at : ℕ) → at < r.start → octet_of (merged x r) at ≡ octet_of x at
  in_front at h = elim (cases_lt at x.start) [
    | inl low ↦ below (merged x r) at (omega (arith, low, h)) ∙ sym (below x at low)
    | inr high ↦
        let first : min x.start r.start ≡ x.start = omega (arith, high, h) in
        from_start (merged x r) at (at - x.start) (omega (arith, first, high))
        ∙ get_front front (r.octets ++ back) (at - x.start) (omega (arith, front_long, high, h))
        ∙ get_take (r.start - x.start) x.octets (at - x.start) (omega (arith, high, h))
        ∙ sym (from_start x at (at - x.start) (omega (arith, high)))
  ]

  -- in it
  in_middle : (at : ℕ) → r.start ≤ at → at < end_of r → octet_of (merged x r) at ≡ octet_of r at
  in_middle at low high =
      let i = at - r.start in
      from_start (merged x r) at (length front + i) (omega (arith, front_long, low))
      ∙ get_back front (r.octets ++ back) i
      ∙ get_front r.octets back i (omega (arith, low, high))
      ∙ sym (from_start r at i (omega (arith, low)))

  -- behind it
  in_back : (at : ℕ) → end_of r ≤ at → octet_of (merged x r) at ≡ octet_of x at
  in_back at high =
      let i = at - end_of r in
      from_start (merged x r) at (length front + (length r.octets + i)) (omega (arith, front_long, high))
      ∙ get_back front (r.octets ++ back) (length r.octets + i)
      ∙ get_back r.octets back i
      ∙ get_drop (end_of r - x.start) x.octets i
      ∙ sym (from_start x at (end_of r - x.start + i) (omega (arith, high, close)))

  pub merged_is : (at : ℕ) → octet_of (merged x r) at ≡ or_else (octet_of r at) (octet_of x at)
  merged_is at = elim (cases_lt at r.start) [
    | inl low ↦ in_front at low ∙ sym (ap (λ (o : Option ℕ). or_else o (octet_of x at)) (below r at low))
    | inr high ↦ elim (cases_lt at (end_of r)) [
      | inl within ↦
          let found = inside r at high within in
          in_middle at high within ∙ found.1 ∙ sym (ap (λ (o : Option ℕ). or_else o (octet_of x at)) found.1)
      | inr beyond ↦ in_back at beyond ∙ sym (ap (λ (o : Option ℕ). or_else o (octet_of x at)) (past r at beyond))
    ]
  ]

-- ---- all

else_else : (a b c : Option ℕ) → or_else (or_else a b) c ≡ or_else a (or_else b c)
else_else None b c = refl
else_else (Some a) b c = refl

-- of two of which one is none
swapped : (a b c : Option ℕ) → (a ≡ None) ⊎ (b ≡ None) → or_else a (or_else b c) ≡ or_else b (or_else a c)
swapped None b c h = refl
swapped (Some a) None c h = refl
swapped (Some a) (Some b) c (inl h) = absurd cc
swapped (Some a) (Some b) c (inr h) = absurd cc

apart : (x r : Run) (at : ℕ) → end_of x < r.start → (octet_of x at ≡ None) ⊎ (octet_of r at ≡ None)
apart x r at far = elim (cases_lt at r.start) [ inl low ↦ inr (below r at low) | inr high ↦ inl (past x at (omega (arith, high, far))) ]

if_kept : {A : Type 0} (P : A → Type 0) (b : Bool) (x y : A) → (b ≡ true → P x) → (b ≡ false → P y) → P (cond b x y)
if_kept P true x y t f = t refl
if_kept P false x y t f = f refl

pub joins_octets : (xs : List Run) (r : Run) (at : ℕ) → octet_in (joined xs r) at ≡ or_else (octet_of r at) (octet_in xs at)
joins_octets [] r at = refl
joins_octets (x ∷ xs) r at =
    if_kept (λ (ys : List Run). octet_in ys at ≡ or_else (octet_of r at) (octet_in (x ∷ xs) at)) (nat_lt (end_of x) r.start) _ _
    (λ before. ap (or_else (octet_of x at)) (joins_octets xs r at)
    ∙ swapped (octet_of x at) (octet_of r at) (octet_in xs at) (apart x r at (ltb-true (end_of x) r.start before)))
    (λ near. if_kept (λ (ys : List Run). octet_in ys at ≡ or_else (octet_of r at) (octet_in (x ∷ xs) at)) (nat_lt (end_of r) x.start) _ _
    (λ after. refl)
    (λ close. joins_octets xs (merged x r) at
    ∙ ap (λ (o : Option ℕ). or_else o (octet_in xs at)) (merged_is x r (ltb-false (end_of x) r.start near) (ltb-false (end_of r) x.start close) at)
    ∙ else_else (octet_of r at) (octet_of x at) (octet_in xs at)))

pub lower : (least more : ℕ) (xs : List Run) → least ≤ more → Rise more xs → Rise least xs
lower least more [] h is = tt
lower least more (x ∷ xs) h is = (omega (arith, h, is.0), is.1, is.2)

some_merged : (x r : Run) → 0 < length r.octets → 0 < length (merged x r).octets
some_merged x r some =
    let back = drop (end_of r - x.start) x.octets in
    let long : length (merged x r).octets ≡ length (take (r.start - x.start) x.octets) + length (r.octets ++ back) = length-append (take (r.start - x.start) x.octets) (r.octets ++ back) in
    let rest : length (r.octets ++ back) ≡ length r.octets + length back = length-append r.octets back in
    omega (arith, long, rest, some)

pub joins_rise : (least : ℕ) (xs : List Run) (r : Run) → Rise least xs → least ≤ r.start → 0 < length r.octets → Rise least (joined xs r)
joins_rise least [] r rise low some = (low, some, tt)
joins_rise least (x ∷ xs) r rise low some =
    if_kept (λ (ys : List Run). Rise least ys) (nat_lt (end_of x) r.start) _ _
    (λ before. let far : end_of x < r.start = ltb-true (end_of x) r.start before in
    (rise.0, rise.1, joins_rise (end_of x + 1) xs r rise.2 (omega (arith, far)) some))
    (λ near. if_kept (λ (ys : List Run). Rise least ys) (nat_lt (end_of r) x.start) _ _
    (λ after. let far : end_of r < x.start = ltb-true (end_of r) x.start after in (low, some, (omega (arith, far), rise.1, rise.2)))
    (λ close. joins_rise least xs (merged x r) (lower least (end_of x + 1) xs (omega (arith, rise.0)) rise.2) (omega (arith, low, rise.0))
    (some_merged x r some)))
