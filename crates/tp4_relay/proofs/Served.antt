-- The parts of a pump that serve an open pair, put together: what each tells follows what was told, and what is kept follows what was kept.
use Rattle.std.proofs.Common.{◌≡◌, inl, inr, ℕ, zero, suc, ◌+◌, ◌<◌, ◌≤◌, Bool, true, false, ◌||◌, List, [], ◌∷◌, ◌++◌, length, get_or, drop, Option, Some, None, refl, sym, ◌∙◌, ap, subst, arith, append_assoc}
use Rattle.std.specs.Prelude.{nat_lt, if◌then◌else◌}
use Rattle.std.specs.List.{slice_get}
use Rattle.std.proofs.lemmas.List.{append-nil, length-append, length-map}
use Rattle.std.proofs.lemmas.Option.{get_or_from_slice_get, slice_get-get_or}
use Rattle.script_journal.specs.declared.event.Event.{Event}
use Rattle.script_journal.specs.declared.event.Event.TheVariants as events
use Rattle.tp4_conn.specs.declared.call.ConnectRequest.{ConnectRequest}
use Rattle.tp4_conn.specs.declared.call.UserCall.{UserCall}
use Rattle.tp4_conn.specs.declared.call.UserCall.TheVariants as asks
use Rattle.tp4_conn.specs.declared.timers.Timers.{Timers}
use Rattle.tp4_relay.specs.declared.pair.Heading.{Heading}
use Rattle.tp4_relay.specs.declared.pair.Heading.TheVariants.{On, Back}
use Rattle.tp4_relay.specs.declared.pair.Pair.{Pair}
use Rattle.tp4_relay.specs.declared.pair.Phase.TheVariants.{Open}
use Rattle.tp4_relay.specs.declared.unit.MarkedUnit.{MarkedUnit}
use Rattle.tp4_relay.specs.Allowed.{AreAllowed}
use Rattle.tp4_relay.specs.Kept.{Kept, joined, kept_after, noted}
use Rattle.tp4_relay.specs.Pairs.{AtEnd, change_inbound, change_outbound, inbound_change, inbound_changed, is_open, open_places, outbound_change, outbound_changed, pairs_after, places_from}
use Rattle.tp4_relay.specs.Pump.{Balances, BalancesBy, Parts, ServesAt, ServesEach, ServesIf, ServesOpen, ServesWay, SetsCredit, Submits, credit_now, far_end, near_end, unit_call, way_of}
use Rattle.tp4_relay.specs.Service.{IsService, Tells, ToldBy}
use Rattle.tp4_relay.specs.steps.Making.{MayAsk}
use Rattle.tp4_relay.specs.steps.Serving.{Asked, Balanced, Parted, ServedEach, ServedPair, ServedWay, ServingEach, Submitted, Submitting, with_left}
use Rattle.tp4_relay.specs.steps.Tables.{AreNotable, IsTidy}
use Rattle.tp4_relay.proofs.Commuting.{allowed_more, kept_more}
use Rattle.tp4_relay.proofs.Giving.{first_gone, left_all, left_far, left_first, left_waiting}
use Rattle.tp4_relay.proofs.Telling.{rules_stay, told_allowed, told_refused}
use Rattle.tp4_relay.proofs.Tidy.{all_notable}

-- ---- choices

pub or_assoc : (a b c : Bool) → (a || (b || c)) ≡ ((a || b) || c)
or_assoc true b c = refl
or_assoc false b c = refl

pub or_none : (a : Bool) → (a || false) ≡ a
or_none true = refl
or_none false = refl

pub or_one : (a : Bool) → (a || true) ≡ true
or_one true = refl
or_one false = refl

-- whether a call was done so far, where this one was, or was not
pub done_now : (done one : Bool) → one ≡ true → true ≡ (done || one)
done_now done one is = sym (ap (λ (b : Bool). done || b) is ∙ or_one done)

pub done_before : (done one : Bool) → one ≡ false → done ≡ (done || one)
done_before done one is = sym (ap (λ (b : Bool). done || b) is ∙ or_none done)

-- ---- what is told, one after another

pub drop_told : {X : Type 0} (old made : List X) → drop (length old) (old ++ made) ≡ made
drop_told [] made = refl
drop_told (x ∷ old) made = drop_told old made

pub told_more : (first middle last made more : List Event) → middle ≡ first ++ made → last ≡ middle ++ more → last ≡ first ++ (made ++ more)
told_more first middle last made more one other = other ∙ ap (λ (es : List Event). es ++ more) one ∙ append_assoc first made more

pub broken_now : (seen : List Event) (kept : Kept) → Tells seen seen (AreAllowed kept)
broken_now seen kept = ([], sym (append-nil seen), tt)

pub broken_later : (first middle last made : List Event) (kept current : Kept) → middle ≡ first ++ made → current ≡ kept_after kept made → AreAllowed kept made → Tells middle last (AreAllowed current) → Tells first last (AreAllowed kept)
broken_later first middle last made kept current told is allowed t =
    (made ++ t.0, told_more first middle last made t.0 told t.1, allowed_more kept made t.0 allowed (subst (λ (k : Kept). AreAllowed k t.0) is t.2))

kept_both : (kept middle last : Kept) (made more : List Event) → middle ≡ kept_after kept made → last ≡ kept_after middle more → last ≡ kept_after kept (made ++ more)
kept_both kept middle last made more one other = other ∙ ap (λ (k : Kept). kept_after k more) one ∙ sym (kept_more kept made more)

allowed_both : (kept middle : Kept) (made more : List Event) → middle ≡ kept_after kept made → AreAllowed kept made → AreAllowed middle more → AreAllowed kept (made ++ more)
allowed_both kept middle made more is one other = allowed_more kept made more one (subst (λ (k : Kept). AreAllowed k more) is other)

-- ---- the pair at a place

found_is : (pairs : List Pair) (place : ℕ) (found pair : Pair) → found ≡ get_or pairs place found → slice_get pairs place ≡ Some pair → found ≡ pair
found_is pairs place found pair is there = is ∙ get_or_from_slice_get pairs place pair found there

pub found_there : (pairs : List Pair) (place : ℕ) (found : Pair) → place < length pairs → found ≡ get_or pairs place found → slice_get pairs place ≡ Some found
found_there pairs place found low is = slice_get-get_or pairs place found low ∙ ap (λ (p : Pair). Some p) (sym is)

-- ---- as many pairs, or more

grow_in : (at : AtEnd) (pairs : List Pair) → length pairs ≤ length (change_inbound at pairs)
grow_in None pairs = omega arith
grow_in (Some at) pairs = let e = length-map pairs (inbound_changed at.0 at.1) in omega (arith, e)

grow_out : (at : AtEnd) (pairs : List Pair) → length pairs ≤ length (change_outbound at pairs)
grow_out None pairs = omega arith
grow_out (Some at) pairs = let e = length-map pairs (outbound_changed at.0 at.1) in omega (arith, e)

grow_after : (pairs : List Pair) (event : Event) → length pairs ≤ length (pairs_after pairs event)
grow_after pairs event =
    let a = grow_in (inbound_change event) pairs in
    let b = grow_out (outbound_change event) (change_inbound (inbound_change event) pairs) in
    omega (arith, a, b)

grow_one : (kept : Kept) (event : Event) → length kept.pairs ≤ length (noted kept event).pairs
grow_one kept (events.Joined i o) = let e = length-append kept.pairs (joined kept.claims i o ∷ []) in omega (arith, e)
grow_one kept event = grow_after kept.pairs event

pub pairs_grow : (kept : Kept) (made : List Event) → length kept.pairs ≤ length (kept_after kept made).pairs
pairs_grow kept [] = omega arith
pairs_grow kept (event ∷ made) = let a = grow_one kept event in let b = pairs_grow (noted kept event) made in omega (arith, a, b)

places_bound : (n : ℕ) (pairs : List Pair) (k : ℕ) → k < length (places_from n pairs) → get_or (places_from n pairs) k 0 < n + length pairs
places_bound n [] k low = absurd (omega (arith, low))
places_bound n (pair ∷ pairs) k low = by (λ j below. (let e = places_bound (suc n) pairs j below in omega (arith, e))) (is_open pair.phase) k low
  where
    by : ((j : ℕ) → j < length (places_from (suc n) pairs) → get_or (places_from (suc n) pairs) j 0 < n + length (pair ∷ pairs)) → (b : Bool) (k : ℕ)
        → k < length (if b then n ∷ places_from (suc n) pairs else places_from (suc n) pairs) → get_or (if b then n ∷ places_from (suc n) pairs else places_from (suc n) pairs) k 0 < n + length (pair ∷ pairs)
    by later true zero below = omega arith
    by later true (suc k) below = later k (omega (arith, below))
    by later false k below = later k below

pub open_bound : (pairs : List Pair) (k : ℕ) → k < length (open_places pairs) → get_or (open_places pairs) k 0 < length pairs
open_bound pairs k low = let e = places_bound 0 pairs k low in omega (arith, e)

module _ {S : Type 0} (has : S → ℕ → Type 0) (ends : S → ℕ) (honest : S → Bool) (connects : S → ℕ → ConnectRequest → Bool → List Event → S → Type 0)
    (calls : S → ℕ → UserCall → Bool → List Event → S → Type 0) (law : IsService has ends honest connects calls) where
  -- ---- a call

  pub call_allowed : (kept : Kept) (end : ℕ) (call : UserCall) (done : Bool) (old : S) (made : List Event) (new : S) → MayAsk kept end call → calls old end call done made new → AreAllowed kept made
  call_allowed kept end call done old made new may called = told_allowed kept end call done made may (law.told old end call done made new called)

  pub call_notable : (kept : Kept) (end : ℕ) (call : UserCall) (done : Bool) (old : S) (before after : List Event) (new : S) → IsTidy kept → MayAsk kept end call
      → Tells before after (λ made. calls old end call done made new) → AreNotable kept (drop (length before) after)
  call_notable kept end call done old before after new tidy may t =
      subst (AreNotable kept) (sym (ap (drop (length before)) t.1 ∙ drop_told before t.0)) (all_notable kept t.0 tidy (call_allowed kept end call done old t.0 new may t.2))

  pub call_bound : (before after : List Event) (Made : List Event → Type 0) → Tells before after Made → length before ≤ length after
  call_bound before after Made t = let e = ap (λ (es : List Event). length es) t.1 in let l = length-append before t.0 in omega (arith, e, l)

  pub asked_told : (kept last : Kept) (end : ℕ) (call : UserCall) (done : Bool) (old : S) (before after : List Event) (new : S) → MayAsk kept end call → Tells before after (λ made. calls old end call done made new)
      → last ≡ kept_after kept (drop (length before) after) → Tells before after (λ made. Asked calls old kept end call done made new last)
  asked_told kept last end call done old before after new may t is = (
    t.0,
    t.1,
    record {
      called = t.2;
      last_is = is ∙ ap (kept_after kept) (ap (drop (length before)) t.1 ∙ drop_told before t.0);
      allowed = call_allowed kept end call done old t.0 new may t.2;
    },
  )

  pub asked_broken : (kept : Kept) (end : ℕ) (call : UserCall) (done : Bool) (old : S) (before after : List Event) (new : S) → MayAsk kept end call → Tells before after (λ made. calls old end call done made new)
      → Tells before after (AreAllowed kept)
  asked_broken kept end call done old before after new may t = (t.0, t.1, call_allowed kept end call done old t.0 new may t.2)

  -- ---- both ends are disconnected

  pub parted_told : (kept middle last : Kept) (place : ℕ) (found : Pair) (one other : Bool) (old mid new : S) (first then_seen end_seen : List Event) → found ≡ get_or kept.pairs place found
      → Tells first then_seen (λ made. Asked calls old kept found.inbound (asks.Disconnect []) one made mid middle)
      → Tells then_seen end_seen (λ made. Asked calls mid middle found.outbound (asks.Disconnect []) other made new last)
      → Tells first end_seen (λ made. Parted connects calls old kept place (one || other) made new last)
  parted_told kept middle last place found one other old mid new first then_seen end_seen is a b = (
    a.0 ++ b.0,
    told_more first then_seen end_seen a.0 b.0 a.1 b.1,
    record {
      parts = λ pair there.
          subst (λ (p : Pair). Parts connects calls old p (one || other) (a.0 ++ b.0) new) (found_is kept.pairs place found pair is there)
          (mid, one, other, a.0, b.0, (a.2).called, (b.2).called, refl, refl);
      last_is = kept_both kept middle last a.0 b.0 (a.2).last_is (b.2).last_is;
      allowed = allowed_both kept middle a.0 b.0 (a.2).last_is (a.2).allowed (b.2).allowed;
    },
  )

  pub asked_then : (kept middle : Kept) (end : ℕ) (call : UserCall) (one : Bool) (old mid : S) (first then_seen end_seen : List Event)
      → Tells first then_seen (λ made. Asked calls old kept end call one made mid middle) → Tells then_seen end_seen (AreAllowed middle) → Tells first end_seen (AreAllowed kept)
  asked_then kept middle end call one old mid first then_seen end_seen a t = broken_later first then_seen end_seen a.0 kept middle a.1 (a.2).last_is (a.2).allowed t

  -- ---- the credit is set, or the pair parts

  module _ (kept last : Kept) (place : ℕ) (heading : Heading) (found : Pair) (old new : S) (first end_seen : List Event) (is : found ≡ get_or kept.pairs place found) where
    abbrev waiting : List MarkedUnit
    waiting = (way_of heading found).waiting

    balances_at : (done : Bool) (made : List Event) → Balances connects calls old kept.rules heading found waiting done made new
        → (pair : Pair) → slice_get kept.pairs place ≡ Some pair → Balances connects calls old kept.rules heading pair (way_of heading pair).waiting done made new
    balances_at done made h pair there = subst (λ (p : Pair). Balances connects calls old kept.rules heading p (way_of heading p).waiting done made new) (found_is kept.pairs place found pair is there) h

    pub balanced_part : (done : Bool) → place < length kept.pairs → nat_lt 300 (length waiting) ≡ true → Tells first end_seen (λ made. Parted connects calls old kept place done made new last)
        → Tells first end_seen (λ made. Balanced connects calls old kept place heading done made new last)
    balanced_part done low many t = (
      t.0,
      t.1,
      record {
        balances = balances_at done t.0 (subst (λ (b : Bool). BalancesBy connects calls b old kept.rules heading found waiting done t.0 new) (sym many) ((t.2).parts found (found_there kept.pairs place found low is)));
        last_is = (t.2).last_is;
        allowed = (t.2).allowed;
      },
    )

    pub balanced_credit : (done : Bool) (credit : ℕ) → nat_lt 300 (length waiting) ≡ false → credit_now kept.rules.credit (way_of heading found).lowered waiting ≡ Some credit
        → Tells first end_seen (λ made. Asked calls old kept (near_end heading found) (asks.Window credit) done made new last) → Tells first end_seen (λ made. Balanced connects calls old kept place heading done made new last)
    balanced_credit done credit few set t = (
      t.0,
      t.1,
      record {
        balances = balances_at done t.0 (subst (λ (b : Bool). BalancesBy connects calls b old kept.rules heading found waiting done t.0 new) (sym few)
            (subst (λ (c : Option ℕ). SetsCredit connects calls old (near_end heading found) c done t.0 new) (sym set) (t.2).called));
        last_is = (t.2).last_is;
        allowed = (t.2).allowed;
      },
    )

  pub balanced_none : (kept : Kept) (place : ℕ) (heading : Heading) (found : Pair) (old : S) (seen : List Event) → found ≡ get_or kept.pairs place found → nat_lt 300 (length (way_of heading found).waiting) ≡ false
      → credit_now kept.rules.credit (way_of heading found).lowered (way_of heading found).waiting ≡ None → Tells seen seen (λ made. Balanced connects calls old kept place heading false made old kept)
  balanced_none kept place heading found old seen is few set = (
    [],
    sym (append-nil seen),
    record {
      balances = balances_at kept kept place heading found old old seen seen is false [] (subst (λ (b : Bool). BalancesBy connects calls b old kept.rules heading found (way_of heading found).waiting false [] old) (sym few)
          (subst (λ (c : Option ℕ). SetsCredit connects calls old (near_end heading found) c false [] old) (sym set) (refl, refl, refl)));
      last_is = refl;
      allowed = tt;
    },
  )

  -- ---- units that wait are submitted

  module _ (kept : Kept) (place : ℕ) (heading : Heading) (first : S) (before : List Event) where
    abbrev So : S → Kept → List Event → Bool → Type 0
    So now current seen done = Submitting connects calls first kept place heading before now current seen done

    pub submitting_none : (pair : Pair) → slice_get kept.pairs place ≡ Some pair → pair.phase ≡ Open → So first kept before false
    submitting_none pair there opens = record {
      pair = pair;
      left = (way_of heading pair).waiting;
      taken = [];
      is = there;
      is_open = opens;
      told = sym (append-nil before);
      goes_on = λ others more new end_left s. s;
      now_is = there ∙ ap (λ (p : Pair). Some p) (sym (left_all heading pair));
      current_is = refl;
      allowed = tt;
    }

    -- nothing is left
    pub submitted_all : (now : S) (current : Kept) (seen : List Event) (done : Bool) (s : So now current seen done) → s.left ≡ [] → Tells before seen (λ made. Submitted connects calls first kept place heading done made now current)
    submitted_all now current seen done s none = (
      s.taken,
      s.told,
      record {
        pair = s.pair;
        left = [];
        is = s.is;
        submits = subst (λ (b : Bool). Submits connects calls first (far_end heading s.pair) (way_of heading s.pair).waiting b s.taken now []) (or_none done)
            (subst (λ (es : List Event). Submits connects calls first (far_end heading s.pair) (way_of heading s.pair).waiting (done || false) es now []) (append-nil s.taken)
            (s.goes_on false [] now [] (subst (λ (us : List MarkedUnit). Submits connects calls now (far_end heading s.pair) us false [] now []) (sym none) (refl, refl, refl, refl))));
        then_is = s.now_is ∙ ap (λ (us : List MarkedUnit). Some (with_left heading us s.pair)) none;
        last_is = s.current_is;
        allowed = s.allowed;
      },
    )

    -- the first that is left is refused
    pub submitted_refused : (now new : S) (current last : Kept) (seen later : List Event) (done : Bool) (unit : MarkedUnit) (rest : List MarkedUnit) (s : So now current seen done) → s.left ≡ unit ∷ rest
        → Tells seen later (λ made. Asked calls now current (far_end heading s.pair) (unit_call unit) false made new last) → Tells before later (λ made. Submitted connects calls first kept place heading done made new last)
    submitted_refused now new current last seen later done unit rest s is t = (
      s.taken ++ t.0,
      told_more before seen later s.taken t.0 s.told t.1,
      record {
        pair = s.pair;
        left = s.left;
        is = s.is;
        submits = subst (λ (b : Bool). Submits connects calls first (far_end heading s.pair) (way_of heading s.pair).waiting b (s.taken ++ t.0) new s.left) (or_none done)
            (s.goes_on false t.0 new s.left
            (subst (λ (us : List MarkedUnit). Submits connects calls now (far_end heading s.pair) us false t.0 new us) (sym is) (inl ((t.2).called, refl, refl))));
        then_is = ap (λ (k : Kept). slice_get k.pairs place)
            ((t.2).last_is ∙ told_refused current (far_end heading s.pair) (unit_call unit) t.0 (law.told now (far_end heading s.pair) (unit_call unit) false t.0 new (t.2).called)) ∙ s.now_is;
        last_is = kept_both kept current last s.taken t.0 s.current_is (t.2).last_is;
        allowed = allowed_both kept current s.taken t.0 s.current_is s.allowed (t.2).allowed;
      },
    )

    -- or it is taken
    pub submitting_more : (now new : S) (current last : Kept) (seen later : List Event) (done : Bool) (unit : MarkedUnit) (rest : List MarkedUnit) (s : So now current seen done) → IsTidy current → s.left ≡ unit ∷ rest
        → Tells seen later (λ made. Asked calls now current (far_end heading s.pair) (unit_call unit) true made new last) → So new last later true
    submitting_more now new current last seen later done unit rest s tidy is t =
        let far : ℕ = far_end heading s.pair in
        let now_is : slice_get current.pairs place ≡ Some (with_left heading (unit ∷ rest) s.pair) = s.now_is ∙ ap (λ (us : List MarkedUnit). Some (with_left heading us s.pair)) is in
        let told : ToldBy (far_end heading (with_left heading (unit ∷ rest) s.pair)) (unit_call unit) true t.0 =
        subst (λ (n : ℕ). ToldBy n (unit_call unit) true t.0) (sym (left_far heading (unit ∷ rest) s.pair)) (law.told now far (unit_call unit) true t.0 new (t.2).called) in
        record {
          pair = s.pair;
          left = rest;
          taken = s.taken ++ t.0;
          is = s.is;
          is_open = s.is_open;
          told = told_more before seen later s.taken t.0 s.told t.1;
          goes_on = λ others more end_state end_left h.
              (subst (λ (b : Bool). Submits connects calls first far (way_of heading s.pair).waiting b ((s.taken ++ t.0) ++ more) end_state end_left) (or_one done)
              (subst (λ (es : List Event). Submits connects calls first far (way_of heading s.pair).waiting (done || true) es end_state end_left) (sym (append_assoc s.taken t.0 more))
              (s.goes_on true (t.0 ++ more) end_state end_left
              (subst (λ (us : List MarkedUnit). Submits connects calls now far us true (t.0 ++ more) end_state end_left) (sym is)
              (inr (new, others, t.0, more, (t.2).called, h, refl, refl))))));
          now_is = ap (λ (k : Kept). slice_get k.pairs place) (t.2).last_is ∙ first_gone current tidy place (with_left heading (unit ∷ rest) s.pair) now_is heading unit t.0 told
              ∙ ap (λ (p : Pair). Some p) (left_first heading unit rest s.pair);
          current_is = kept_both kept current last s.taken t.0 s.current_is (t.2).last_is;
          allowed = allowed_both kept current s.taken t.0 s.current_is s.allowed (t.2).allowed;
        }

    pub submitting_broken : (now : S) (current : Kept) (seen later : List Event) (done : Bool) → So now current seen done → Tells seen later (AreAllowed current) → Tells before later (AreAllowed kept)
    submitting_broken now current seen later done s t = broken_later before seen later s.taken kept current s.told s.current_is s.allowed t

  -- ---- one way

  balances_left : (rules : Timers) (heading : Heading) (left : List MarkedUnit) (pair : Pair) (old new : S) (done : Bool) (made : List Event) (b : Bool)
      → BalancesBy connects calls b old rules heading (with_left heading left pair) left done made new → BalancesBy connects calls b old rules heading pair left done made new
  balances_left rules On left pair old new done made true h = h
  balances_left rules On left pair old new done made false h = h
  balances_left rules Back left pair old new done made true h = h
  balances_left rules Back left pair old new done made false h = h

  pub way_served : (kept middle last : Kept) (place : ℕ) (heading : Heading) (one other : Bool) (old mid new : S) (first then_seen end_seen : List Event) (found : Pair)
      → found ≡ get_or kept.pairs place found → found.phase ≡ Open
      → Tells first then_seen (λ made. Submitted connects calls old kept place heading one made mid middle) → Tells then_seen end_seen (λ made. Balanced connects calls mid middle place heading other made new last)
      → Tells first end_seen (λ made. ServedWay connects calls old kept place heading (one || other) made new last)
  way_served kept middle last place heading one other old mid new first then_seen end_seen found is opens a b =
      let pair : Pair = (a.2).pair in
      let left : List MarkedUnit = (a.2).left in
      let phase : is_open pair.phase ≡ true = ap (λ (p : Pair). is_open p.phase) (sym (found_is kept.pairs place found pair is (a.2).is)) ∙ ap is_open opens in
      let rules : middle.rules ≡ kept.rules = ap (λ (k : Kept). k.rules) (a.2).last_is ∙ rules_stay kept a.0 in
      let raw = (b.2).balances (with_left heading left pair) (a.2).then_is in
      let same_units = subst (λ (us : List MarkedUnit). Balances connects calls mid middle.rules heading (with_left heading left pair) us other b.0 new) (left_waiting heading left pair) raw in
      let same_pair = balances_left middle.rules heading left pair mid new other b.0 (nat_lt 300 (length left)) same_units in
      let balanced = subst (λ (r : Timers). Balances connects calls mid r heading pair left other b.0 new) rules same_pair in
      let way : ServesWay connects calls old kept.rules heading pair (one || other) (a.0 ++ b.0) new =
      record { mid = mid; one = one; other = other; here = a.0; rest = b.0; left = left; submits = (a.2).submits; balances = balanced; done_is = refl; made_is = refl } in (
        a.0 ++ b.0,
        told_more first then_seen end_seen a.0 b.0 a.1 b.1,
        record {
          serves = subst (λ (found_pair : Option Pair). ServesIf connects calls old kept.rules heading found_pair (one || other) (a.0 ++ b.0) new) (sym (a.2).is)
              (subst (λ (x : Bool). ServesOpen connects calls x old kept.rules heading pair (one || other) (a.0 ++ b.0) new) (sym phase) way);
          last_is = kept_both kept middle last a.0 b.0 (a.2).last_is (b.2).last_is;
          allowed = allowed_both kept middle a.0 b.0 (a.2).last_is (a.2).allowed (b.2).allowed;
        },
      )

  pub way_submitted : (kept middle : Kept) (place : ℕ) (heading : Heading) (one : Bool) (old mid : S) (first then_seen end_seen : List Event)
      → Tells first then_seen (λ made. Submitted connects calls old kept place heading one made mid middle) → Tells then_seen end_seen (AreAllowed middle) → Tells first end_seen (AreAllowed kept)
  way_submitted kept middle place heading one old mid first then_seen end_seen a t = broken_later first then_seen end_seen a.0 kept middle a.1 (a.2).last_is (a.2).allowed t

  pub way_closed : (kept : Kept) (place : ℕ) (heading : Heading) (old : S) (seen : List Event) (found : Pair) → place < length kept.pairs → found ≡ get_or kept.pairs place found → is_open found.phase ≡ false
      → Tells seen seen (λ made. ServedWay connects calls old kept place heading false made old kept)
  way_closed kept place heading old seen found low is closed = (
    [],
    sym (append-nil seen),
    record {
      serves = subst (λ (found_pair : Option Pair). ServesIf connects calls old kept.rules heading found_pair false [] old) (sym (found_there kept.pairs place found low is))
          (subst (λ (x : Bool). ServesOpen connects calls x old kept.rules heading found false [] old) (sym closed) (refl, refl, refl));
      last_is = refl;
      allowed = tt;
    },
  )

  -- ---- both ways

  pub pair_served : (kept middle last : Kept) (place : ℕ) (one other : Bool) (old mid new : S) (first then_seen end_seen : List Event)
      → Tells first then_seen (λ made. ServedWay connects calls old kept place On one made mid middle) → Tells then_seen end_seen (λ made. ServedWay connects calls mid middle place Back other made new last)
      → Tells first end_seen (λ made. ServedPair connects calls old kept place (one || other) made new last)
  pair_served kept middle last place one other old mid new first then_seen end_seen a b = (
    a.0 ++ b.0,
    told_more first then_seen end_seen a.0 b.0 a.1 b.1,
    record {
      serves = record {
        mid = mid;
        one = one;
        other = other;
        here = a.0;
        rest = b.0;
        on = (a.2).serves;
        back = subst (λ (k : Kept). ServesAt connects calls mid k place Back other b.0 new) (a.2).last_is (b.2).serves;
        done_is = refl;
        made_is = refl;
      };
      last_is = kept_both kept middle last a.0 b.0 (a.2).last_is (b.2).last_is;
      allowed = allowed_both kept middle a.0 b.0 (a.2).last_is (a.2).allowed (b.2).allowed;
    },
  )

  pub pair_broken : (kept middle : Kept) (place : ℕ) (heading : Heading) (one : Bool) (old mid : S) (first then_seen end_seen : List Event)
      → Tells first then_seen (λ made. ServedWay connects calls old kept place heading one made mid middle) → Tells then_seen end_seen (AreAllowed middle) → Tells first end_seen (AreAllowed kept)
  pair_broken kept middle place heading one old mid first then_seen end_seen a t = broken_later first then_seen end_seen a.0 kept middle a.1 (a.2).last_is (a.2).allowed t

  -- ---- each open pair

  module _ (kept : Kept) (places : List ℕ) (first : S) (before : List Event) where
    abbrev Each : ℕ → S → Kept → List Event → Bool → Type 0
    Each at now current seen done = ServingEach connects calls first kept places before at now current seen done

    pub each_none : ((k : ℕ) → k < length places → get_or places k 0 < length kept.pairs) → Each 0 first kept before false
    each_none bounds = record { taken = []; told = sym (append-nil before); goes_on = λ others more new last s. s; current_is = refl; allowed = tt; bounds = bounds }

    pub each_more : (at : ℕ) (now new : S) (current last : Kept) (seen later : List Event) (done one next : Bool) → at < length places → next ≡ (done || one) → Each at now current seen done
        → Tells seen later (λ made. ServedPair connects calls now current (get_or places at 0) one made new last) → Each (at + 1) new last later next
    each_more at now new current last seen later done one next low next_is e t = record {
      taken = e.taken ++ t.0;
      told = told_more before seen later e.taken t.0 e.told t.1;
      goes_on = λ others more end_state end_kept h.
          (subst (λ (b : Bool). ServesEach connects calls first kept places b ((e.taken ++ t.0) ++ more) end_state end_kept) (or_assoc done one others ∙ ap (λ (b : Bool). b || others) (sym next_is))
          (subst (λ (es : List Event). ServesEach connects calls first kept places (done || (one || others)) es end_state end_kept) (sym (append_assoc e.taken t.0 more))
          (e.goes_on (one || others) (t.0 ++ more) end_state end_kept
          (subst (λ (ps : List ℕ). ServesEach connects calls now current ps (one || others) (t.0 ++ more) end_state end_kept) (sym (dropped at places low))
          (new, one, others, t.0, more, (t.2).serves, subst (λ (k : Kept). ServesEach connects calls new k (drop (at + 1) places) others more end_state end_kept) (t.2).last_is h, refl, refl)))));
      current_is = kept_both kept current last e.taken t.0 e.current_is (t.2).last_is;
      allowed = allowed_both kept current e.taken t.0 e.current_is e.allowed (t.2).allowed;
      bounds = λ k below.
          (let a = e.bounds k below in let b = pairs_grow current t.0 in let l = ap (λ (x : Kept). length x.pairs) (t.2).last_is in omega (arith, a, b, l));
    }
      where
        dropped : (at : ℕ) (ps : List ℕ) → at < length ps → drop at ps ≡ get_or ps at 0 ∷ drop (at + 1) ps
        dropped at [] low = absurd (omega (arith, low))
        dropped zero (p ∷ ps) low = refl
        dropped (suc at) (p ∷ ps) low = let s : suc at + 1 ≡ suc (at + 1) = omega arith in dropped at ps (omega (arith, low)) ∙ ap (λ (n : ℕ). get_or ps at 0 ∷ drop n (p ∷ ps)) (sym s)

    pub each_served : (at : ℕ) (now : S) (current : Kept) (seen : List Event) (done : Bool) → length places ≤ at → Each at now current seen done
        → Tells before seen (λ made. ServedEach connects calls first kept places done made now current)
    each_served at now current seen done past e = (
      e.taken,
      e.told,
      record {
        serves = subst (λ (b : Bool). ServesEach connects calls first kept places b e.taken now current) (or_none done)
            (subst (λ (es : List Event). ServesEach connects calls first kept places (done || false) es now current) (append-nil e.taken)
            (e.goes_on false [] now current (subst (λ (ps : List ℕ). ServesEach connects calls now current ps false [] now current) (sym (none_left at places past)) (refl, refl, refl, refl))));
        last_is = e.current_is;
        allowed = e.allowed;
      },
    )
      where
        none_left : (at : ℕ) (ps : List ℕ) → length ps ≤ at → drop at ps ≡ []
        none_left zero [] past = refl
        none_left (suc at) [] past = refl
        none_left zero (p ∷ ps) past = absurd (omega (arith, past))
        none_left (suc at) (p ∷ ps) past = none_left at ps (omega (arith, past))

    pub each_broken : (at : ℕ) (now : S) (current : Kept) (seen later : List Event) (done : Bool) → Each at now current seen done → Tells seen later (AreAllowed current) → Tells before later (AreAllowed kept)
    each_broken at now current seen later done e t = broken_later before seen later e.taken kept current e.told e.current_is e.allowed t
