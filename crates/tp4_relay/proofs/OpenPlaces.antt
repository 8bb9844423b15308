-- The places of the open pairs, as one pair opens or closes: its place is put in where it stands, or taken out.
use Rattle.std.proofs.Common.{◌≡◌, ◌⊎◌, inl, inr, ℕ, zero, suc, ◌+◌, ◌<◌, ◌≤◌, Bool, true, false, List, [], ◌∷◌, length, get_or, set, if◌then◌else◌, refl, sym, ◌∙◌, ap, subst, arith, map, Some, ◌==◌}
use Rattle.std.specs.List.{insert, remove}
use Rattle.tp4_relay.specs.declared.pair.Heading.TheVariants.{On, Back}
use Rattle.tp4_relay.specs.declared.pair.Pair.{Pair}
use Rattle.tp4_relay.specs.declared.pair.Phase.{Phase}
use Rattle.tp4_relay.specs.declared.pair.Phase.TheVariants.{Begun, Open}
use Rattle.tp4_relay.specs.declared.pair.Phase.TheVariants.{Closed as Shut}
use Rattle.tp4_relay.specs.Pairs.{Change, Opens, Accepts, Closes, Waits, Gives, Turns, change_inbound, change_outbound, changed, is_open, open_places, opened, places_from}
use Rattle.tp4_relay.specs.steps.Rising.{IsGap}

abbrev put : ℕ → List ℕ → Bool → List ℕ
put n places b = if b then n ∷ places else places

-- no place is lower than where they begin
from_start : (n : ℕ) (pairs : List Pair) (k : ℕ) → k < length (places_from n pairs) → n ≤ get_or (places_from n pairs) k 0
from_start n [] k some = absurd (omega (arith, some))
from_start n (pair ∷ pairs) k some = by (λ j low. from_start (suc n) pairs j low) (is_open pair.phase) k some
  where
    by : ((j : ℕ) → j < length (places_from (suc n) pairs) → suc n ≤ get_or (places_from (suc n) pairs) j 0) → (b : Bool) (k : ℕ) → k < length (put n (places_from (suc n) pairs) b)
        → n ≤ get_or (put n (places_from (suc n) pairs) b) k 0
    by rest true zero h = omega arith
    by rest true (suc k) h = let e = rest k (omega (arith, h)) in omega (arith, e)
    by rest false k h = let e = rest k h in omega (arith, e)

gap_tail : (at x y : ℕ) (xs : List ℕ) → IsGap (suc at) x (y ∷ xs) → IsGap at x xs
gap_tail at x y xs gap = record {
  bound = omega (arith, gap.bound);
  below = λ k is. gap.below (suc k) (omega (arith, is));
  above = λ k low high. gap.above (suc k) (omega (arith, low)) (omega (arith, high));
}

gap_moved : (at x y : ℕ) (xs : List ℕ) → x ≡ y → IsGap at x xs → IsGap at y xs
gap_moved at x y xs is gap = subst (λ (z : ℕ). IsGap at z xs) is gap

gap_in : (at x : ℕ) (xs ys : List ℕ) → xs ≡ ys → IsGap at x xs → IsGap at x ys
gap_in at x xs ys is gap = subst (λ (zs : List ℕ). IsGap at x zs) is gap

-- a gap before all places that begin later is the first
no_gap : (n at x : ℕ) (pairs : List Pair) → x ≤ n → IsGap (suc at) x (places_from n pairs) → ⊥
no_gap n at x pairs low gap =
    let e = from_start n pairs at (omega (arith, gap.bound)) in
    let b = gap.below at (omega arith) in
    omega (arith, e, b, low)

next : (n k : ℕ) → n + suc k ≡ suc n + k
next n k = omega arith

-- ---- a pair opens

abbrev Opened : ℕ → List Pair → ℕ → Pair → ℕ → Type 0
Opened n pairs k q at = insert (places_from n pairs) at (n + k) ≡ places_from n (set pairs k q)

opened_first : (n : ℕ) (pair : Pair) (pairs : List Pair) (q : Pair) (at : ℕ) → is_open pair.phase ≡ false → is_open q.phase ≡ true → IsGap at (n + 0) (places_from n (pair ∷ pairs)) → Opened n (pair ∷ pairs) 0 q at
opened_first n pair pairs q zero was now gap =
    let none : places_from n (pair ∷ pairs) ≡ places_from (suc n) pairs = ap (put n (places_from (suc n) pairs)) was in
    let some : places_from n (q ∷ pairs) ≡ n ∷ places_from (suc n) pairs = ap (put n (places_from (suc n) pairs)) now in
    let e : n + 0 ≡ n = omega arith in
    ap (λ (xs : List ℕ). (n + 0) ∷ xs) none ∙ ap (λ (m : ℕ). m ∷ places_from (suc n) pairs) e ∙ sym some
opened_first n pair pairs q (suc at) was now gap =
    let none : places_from n (pair ∷ pairs) ≡ places_from (suc n) pairs = ap (put n (places_from (suc n) pairs)) was in
    absurd (no_gap (suc n) at (n + 0) pairs (omega arith) (gap_in (suc at) (n + 0) (places_from n (pair ∷ pairs)) (places_from (suc n) pairs) none gap))

opened_from : (n : ℕ) (pairs : List Pair) (k : ℕ) (q d : Pair) (at : ℕ) → k < length pairs → is_open (get_or pairs k d).phase ≡ false → is_open q.phase ≡ true
    → IsGap at (n + k) (places_from n pairs) → Opened n pairs k q at
opened_from n [] k q d at low was now gap = absurd (omega (arith, low))
opened_from n (pair ∷ pairs) zero q d at low was now gap = opened_first n pair pairs q at was now gap
opened_from n (pair ∷ pairs) (suc k) q d at low was now gap =
    by (λ a g. ap (λ (m : ℕ). insert (places_from (suc n) pairs) a m) (next n k) ∙ opened_from (suc n) pairs k q d a (omega (arith, low)) was now g) (is_open pair.phase) at gap
  where
    by : ((a : ℕ) → IsGap a (suc n + k) (places_from (suc n) pairs) → insert (places_from (suc n) pairs) a (n + suc k) ≡ places_from (suc n) (set pairs k q)) → (b : Bool) (at : ℕ) → IsGap at (n + suc k) (put n (places_from (suc n) pairs) b)
        → insert (put n (places_from (suc n) pairs) b) at (n + suc k) ≡ put n (places_from (suc n) (set pairs k q)) b
    by deeper true zero g = absurd (let a = g.above 0 (omega arith) (omega arith) in omega (arith, a))
    by deeper true (suc at) g =
        let tail = gap_moved at (n + suc k) (suc n + k) (places_from (suc n) pairs) (next n k) (gap_tail at (n + suc k) n (places_from (suc n) pairs) g) in
        ap (λ (xs : List ℕ). n ∷ xs) (deeper at tail)
    by deeper false at g = deeper at (gap_moved at (n + suc k) (suc n + k) (places_from (suc n) pairs) (next n k) g)

pub opened_places : (pairs : List Pair) (place : ℕ) (q d : Pair) (at : ℕ) → place < length pairs → is_open (get_or pairs place d).phase ≡ false → is_open q.phase ≡ true
    → IsGap at place (open_places pairs) → insert (open_places pairs) at place ≡ open_places (set pairs place q)
opened_places pairs place q d at low was now gap =
    let e : place ≡ 0 + place = omega arith in
    ap (λ (m : ℕ). insert (open_places pairs) at m) e ∙ opened_from 0 pairs place q d at low was now (gap_moved at place (0 + place) (open_places pairs) e gap)

-- ---- a pair closes

pub record Closed (n : ℕ) (pairs : List Pair) (k : ℕ) (q : Pair) (at : ℕ) : Type 0 where
  pub bound : at < length (places_from n pairs)
  pub left : remove (places_from n pairs) at ≡ places_from n (set pairs k q)

closed_first : (n : ℕ) (pair : Pair) (pairs : List Pair) (q : Pair) (at : ℕ) → is_open pair.phase ≡ true → is_open q.phase ≡ false → IsGap at (n + 0) (places_from n (pair ∷ pairs)) → Closed n (pair ∷ pairs) 0 q at
closed_first n pair pairs q zero was now gap =
    let some : places_from n (pair ∷ pairs) ≡ n ∷ places_from (suc n) pairs = ap (put n (places_from (suc n) pairs)) was in
    let none : places_from n (q ∷ pairs) ≡ places_from (suc n) pairs = ap (put n (places_from (suc n) pairs)) now in
    record {
      bound = subst (λ (xs : List ℕ). 0 < length xs) (sym some) (omega arith);
      left = ap (λ (xs : List ℕ). remove xs 0) some ∙ sym none;
    }
closed_first n pair pairs q (suc at) was now gap =
    let some : places_from n (pair ∷ pairs) ≡ n ∷ places_from (suc n) pairs = ap (put n (places_from (suc n) pairs)) was in
    absurd (first_gap at (gap_in (suc at) (n + 0) (places_from n (pair ∷ pairs)) (n ∷ places_from (suc n) pairs) some gap))
  where
    first_gap : (at : ℕ) → IsGap (suc at) (n + 0) (n ∷ places_from (suc n) pairs) → ⊥
    first_gap zero g = let b = g.below 0 (omega arith) in omega (arith, b)
    first_gap (suc at) g = no_gap (suc n) at (n + 0) pairs (omega arith) (gap_tail (suc at) (n + 0) n (places_from (suc n) pairs) g)

closed_from : (n : ℕ) (pairs : List Pair) (k : ℕ) (q d : Pair) (at : ℕ) → k < length pairs → is_open (get_or pairs k d).phase ≡ true → is_open q.phase ≡ false
    → IsGap at (n + k) (places_from n pairs) → Closed n pairs k q at
closed_from n [] k q d at low was now gap = absurd (omega (arith, low))
closed_from n (pair ∷ pairs) zero q d at low was now gap = closed_first n pair pairs q at was now gap
closed_from n (pair ∷ pairs) (suc k) q d at low was now gap =
    let r = by (λ a g. closed_from (suc n) pairs k q d a (omega (arith, low)) was now g) (is_open pair.phase) at gap in
    record { bound = r.0; left = r.1 }
  where
    by : ((a : ℕ) → IsGap a (suc n + k) (places_from (suc n) pairs) → Closed (suc n) pairs k q a) → (b : Bool) (at : ℕ) → IsGap at (n + suc k) (put n (places_from (suc n) pairs) b)
        → (at < length (put n (places_from (suc n) pairs) b)) × (remove (put n (places_from (suc n) pairs) b) at ≡ put n (places_from (suc n) (set pairs k q)) b)
    by deeper true zero g = absurd (let a = g.above 0 (omega arith) (omega arith) in omega (arith, a))
    by deeper true (suc at) g =
        let tail = gap_moved at (n + suc k) (suc n + k) (places_from (suc n) pairs) (next n k) (gap_tail at (n + suc k) n (places_from (suc n) pairs) g) in
        let r = deeper at tail in
        (omega (arith, r.bound), ap (λ (xs : List ℕ). n ∷ xs) r.left)
    by deeper false at g = let r = deeper at (gap_moved at (n + suc k) (suc n + k) (places_from (suc n) pairs) (next n k) g) in (r.bound, r.left)

pub closed_places : (pairs : List Pair) (place : ℕ) (q d : Pair) (at : ℕ) → place < length pairs → is_open (get_or pairs place d).phase ≡ true → is_open q.phase ≡ false
    → IsGap at place (open_places pairs) → Closed 0 pairs place q at
closed_places pairs place q d at low was now gap = closed_from 0 pairs place q d at low was now (gap_moved at place (0 + place) (open_places pairs) (omega arith) gap)

-- ---- a pair is as open as before

same_from : (n : ℕ) (pairs : List Pair) (k : ℕ) (q d : Pair) → k < length pairs → is_open (get_or pairs k d).phase ≡ is_open q.phase → places_from n pairs ≡ places_from n (set pairs k q)
same_from n [] k q d low is = absurd (omega (arith, low))
same_from n (pair ∷ pairs) zero q d low is = ap (put n (places_from (suc n) pairs)) is
same_from n (pair ∷ pairs) (suc k) q d low is = ap (λ (xs : List ℕ). put n xs (is_open pair.phase)) (same_from (suc n) pairs k q d (omega (arith, low)) is)

pub same_places : (pairs : List Pair) (place : ℕ) (q d : Pair) → place < length pairs → is_open (get_or pairs place d).phase ≡ is_open q.phase → open_places pairs ≡ open_places (set pairs place q)
same_places pairs place q d low is = same_from 0 pairs place q d low is

-- ---- the pair that is read at a place

pub any_default : (pairs : List Pair) (k : ℕ) (d e : Pair) → k < length pairs → get_or pairs k d ≡ get_or pairs k e
any_default [] k d e low = absurd (omega (arith, low))
any_default (pair ∷ pairs) zero d e low = refl
any_default (pair ∷ pairs) (suc k) d e low = any_default pairs k d e (omega (arith, low))

module _ (pairs : List Pair) (place : ℕ) (low : place < length pairs) (q d e : Pair) where
  phase_is : (phase : Phase) → (get_or pairs place e).phase ≡ phase → (get_or pairs place d).phase ≡ phase
  phase_is phase is = ap (λ (p : Pair). p.phase) (any_default pairs place d e low) ∙ is

  pub begun_opens : (at : ℕ) → (get_or pairs place e).phase ≡ Begun → q.phase ≡ opened (get_or pairs place d).phase → IsGap at place (open_places pairs) → insert (open_places pairs) at place ≡ open_places (set pairs place q)
  begun_opens at is now gap =
      let was = phase_is Begun is in
      opened_places pairs place q d at low (ap is_open was) (ap is_open now ∙ ap (λ (p : Phase). is_open (opened p)) was) gap

  pub stays_open : ((get_or pairs place e).phase ≡ Open) ⊎ ((get_or pairs place e).phase ≡ Shut) → q.phase ≡ opened (get_or pairs place d).phase → open_places pairs ≡ open_places (set pairs place q)
  stays_open is now = same_places pairs place q d low (by is)
    where
      by : ((get_or pairs place e).phase ≡ Open) ⊎ ((get_or pairs place e).phase ≡ Shut) → is_open (get_or pairs place d).phase ≡ is_open q.phase
      by (inl opens) = let was = phase_is Open opens in ap is_open was ∙ sym (ap is_open now ∙ ap (λ (p : Phase). is_open (opened p)) was)
      by (inr shut) = let was = phase_is Shut shut in ap is_open was ∙ sym (ap is_open now ∙ ap (λ (p : Phase). is_open (opened p)) was)

  pub open_closes : (at : ℕ) → (get_or pairs place e).phase ≡ Open → q.phase ≡ Shut → IsGap at place (open_places pairs) → Closed 0 pairs place q at
  open_closes at is now gap = closed_places pairs place q d at low (ap is_open (phase_is Open is)) (ap is_open now) gap

  pub stays_closed : ((get_or pairs place e).phase ≡ Begun) ⊎ ((get_or pairs place e).phase ≡ Shut) → q.phase ≡ Shut → open_places pairs ≡ open_places (set pairs place q)
  stays_closed is now = same_places pairs place q d low (by is ∙ sym (ap is_open now))
    where
      by : ((get_or pairs place e).phase ≡ Begun) ⊎ ((get_or pairs place e).phase ≡ Shut) → is_open (get_or pairs place d).phase ≡ false
      by (inl begun) = ap is_open (phase_is Begun begun)
      by (inr shut) = ap is_open (phase_is Shut shut)

-- where the pair at a place closes its place is among the open ones
pub closes_within : (pairs : List Pair) (place : ℕ) (e : Pair) (at : ℕ) → place < length pairs → (get_or pairs place e).phase ≡ Open → IsGap at place (open_places pairs) → at < length (open_places pairs)
closes_within pairs place e at low is gap = (open_closes pairs place low (record e { phase = Shut }) e e at is refl gap).bound

-- ---- changes that leave the phase

abbrev pub LeavesPhase : Change → Type 0
LeavesPhase Opens = ⊥
LeavesPhase Closes = ⊥
LeavesPhase change = Prim.Unit {0}

phase_left : (pair : Pair) (change : Change) → LeavesPhase change → (changed pair change).phase ≡ pair.phase
phase_left pair Opens is = absurd is
phase_left pair Closes is = absurd is
phase_left pair Accepts is = refl
phase_left pair (Waits On unit) is = refl
phase_left pair (Waits Back unit) is = refl
phase_left pair (Gives On) is = refl
phase_left pair (Gives Back) is = refl
phase_left pair (Turns On) is = refl
phase_left pair (Turns Back) is = refl

places_map : (n : ℕ) (pairs : List Pair) (change : Change) (test : Pair → Bool) → LeavesPhase change → places_from n (map (λ (pair : Pair). if test pair then changed pair change else pair) pairs) ≡ places_from n pairs
places_map n [] change test is = refl
places_map n (pair ∷ pairs) change test is =
    ap (λ (p : Phase). put n (places_from (suc n) (map (λ (q : Pair). if test q then changed q change else q) pairs)) (is_open p)) (by (test pair))
    ∙ ap (λ (places : List ℕ). put n places (is_open pair.phase)) (places_map (suc n) pairs change test is)
  where
    by : (b : Bool) → (if b then changed pair change else pair).phase ≡ pair.phase
    by true = phase_left pair change is
    by false = refl

pub places_inbound : (pairs : List Pair) (end : ℕ) (change : Change) → LeavesPhase change → open_places pairs ≡ open_places (change_inbound (Some (end, change)) pairs)
places_inbound pairs end change is = sym (places_map 0 pairs change (λ (pair : Pair). pair.inbound == end) is)

pub places_outbound : (pairs : List Pair) (end : ℕ) (change : Change) → LeavesPhase change → open_places pairs ≡ open_places (change_outbound (Some (end, change)) pairs)
places_outbound pairs end change is = sym (places_map 0 pairs change (λ (pair : Pair). pair.outbound == end) is)

pub places_both : (pairs : List Pair) (end : ℕ) (first second : Change) → LeavesPhase first → LeavesPhase second → open_places pairs ≡ open_places (change_outbound (Some (end, second)) (change_inbound (Some (end, first)) pairs))
places_both pairs end first second one other = places_inbound pairs end first one ∙ places_outbound (change_inbound (Some (end, first)) pairs) end second other
