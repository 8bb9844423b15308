-- A pair at a place is read more than once while it is served: what was read is one pair. The credit that is to be set is 255 at most.
use Rattle.std.proofs.Common.{◌≡◌, ◌⊎◌, inl, inr, ℕ, ◌<◌, ◌≤◌, Bool, true, false, ◌||◌, List, [], ◌∷◌, length, get_or, Option, Some, None, sym, ◌∙◌, ap, subst, arith}
use Rattle.std.specs.Prelude.{nat_lt}
use Rattle.std.proofs.lemmas.Bool.{le-ltb, lt-ltb}
use Rattle.std.proofs.lemmas.Option.{get_or_from_slice_get}
use Rattle.script_journal.specs.declared.event.Event.{Event}
use Rattle.tp4_conn.specs.declared.call.ConnectRequest.{ConnectRequest}
use Rattle.tp4_conn.specs.declared.call.UserCall.{UserCall}
use Rattle.tp4_conn.specs.declared.call.UserCall.TheVariants as asks
use Rattle.tp4_conn.specs.Calls.{IsCall}
use Rattle.tp4_relay.specs.declared.pair.Heading.{Heading}
use Rattle.tp4_relay.specs.declared.pair.Pair.{Pair}
use Rattle.tp4_relay.specs.declared.pair.Way.{Way}
use Rattle.tp4_relay.specs.declared.pair.Phase.{Phase}
use Rattle.tp4_relay.specs.declared.pair.Phase.TheVariants.{Begun, Closed}
use Rattle.tp4_relay.specs.declared.unit.MarkedUnit.{MarkedUnit}
use Rattle.tp4_relay.specs.Kept.{Kept}
use Rattle.tp4_relay.specs.Pairs.{is_open}
use Rattle.tp4_relay.specs.Pump.{credit_now, near_end, way_of}
use Rattle.tp4_relay.specs.Service.{IsService, Tells}
use Rattle.tp4_relay.specs.steps.Serving.{Asked, Balanced, Parted}
use Rattle.tp4_relay.proofs.Served.{balanced_credit, balanced_none, balanced_part, found_there, parted_told}

-- ---- what was read is one pair

pub same_read : (pairs : List Pair) (place : ℕ) (found again : Pair) → place < length pairs → found ≡ get_or pairs place found → again ≡ get_or pairs place again → again ≡ found
same_read pairs place found again low is once_more = once_more ∙ get_or_from_slice_get pairs place found again (found_there pairs place found low is)

-- a pair that was begun, or closed, is not open
pub not_open : (phase : Phase) → (phase ≡ Begun) ⊎ (phase ≡ Closed) → is_open phase ≡ false
not_open phase (inl begun) = ap is_open begun
not_open phase (inr closed) = ap is_open closed

-- ---- whether one of two calls was done

pub or_then : (one other either : Bool) → one ≡ true → either ≡ true → (one || other) ≡ either
or_then true other either is now = sym now
or_then false other either is now = absurd (cc)

pub or_else : (one other either : Bool) → one ≡ false → either ≡ other → (one || other) ≡ either
or_else true other either is now = absurd (cc)
or_else false other either is now = sym now

-- ---- the credit

pub credit_low : (first credit : ℕ) (lowered : Bool) (units : List MarkedUnit) → first ≤ 255 → credit_now first lowered units ≡ Some credit → credit ≤ 255
credit_low first credit true [] low is = let e : first ≡ credit = cc in omega (arith, e, low)
credit_low first credit false [] low is = absurd (cc)
credit_low first credit true (unit ∷ units) low is = absurd (cc)
credit_low first credit false (unit ∷ units) low is = let e : 0 ≡ credit = cc in omega (arith, e)

module _ {S : Type 0} (has : S → ℕ → Type 0) (ends : S → ℕ) (honest : S → Bool) (connects : S → ℕ → ConnectRequest → Bool → List Event → S → Type 0)
    (calls : S → ℕ → UserCall → Bool → List Event → S → Type 0) (law : IsService has ends honest connects calls) where
  -- ---- both ends are disconnected

  pub parted_by : (kept middle last : Kept) (place : ℕ) (found again : Pair) (none nothing : List ℕ) (one other : Bool) (old mid new : S) (first then_seen end_seen : List Event) → place < length kept.pairs
      → found ≡ get_or kept.pairs place found → again ≡ get_or kept.pairs place again → none ≡ [] → nothing ≡ []
      → Tells first then_seen (λ made. Asked calls old kept found.inbound (asks.Disconnect none) one made mid middle)
      → Tells then_seen end_seen (λ made. Asked calls mid middle again.outbound (asks.Disconnect nothing) other made new last)
      → Tells first end_seen (λ made. Parted connects calls old kept place (one || other) made new last)
  parted_by kept middle last place found again none nothing one other old mid new first then_seen end_seen low is once_more no_first no_second a b =
      parted_told has ends honest connects calls law kept middle last place found one other old mid new first then_seen end_seen is
      (subst (λ (octets : List ℕ). Tells first then_seen (λ made. Asked calls old kept found.inbound (asks.Disconnect octets) one made mid middle)) no_first a)
      (subst (λ (p : Pair). Tells then_seen end_seen (λ made. Asked calls mid middle p.outbound (asks.Disconnect []) other made new last)) (same_read kept.pairs place found again low is once_more)
      (subst (λ (octets : List ℕ). Tells then_seen end_seen (λ made. Asked calls mid middle again.outbound (asks.Disconnect octets) other made new last)) no_second b))

  -- ---- the credit is set, or the pair parts

  module _ (kept last : Kept) (place : ℕ) (heading : Heading) (found : Pair) (old new : S) (first end_seen : List Event) (way : Way) (left : ℕ) (low : place < length kept.pairs)
      (is : found ≡ get_or kept.pairs place found) (way_is : way ≡ way_of heading found) (left_is : left ≡ length way.waiting) where
    count_is : length (way_of heading found).waiting ≡ left
    count_is = ap (λ (w : Way). length w.waiting) (sym way_is) ∙ sym left_is

    few : left ≤ 300 → nat_lt 300 (length (way_of heading found).waiting) ≡ false
    few most = let e = count_is in le-ltb 300 (length (way_of heading found).waiting) (omega (arith, e, most))

    pub balanced_many : (done : Bool) → 300 < left → Tells first end_seen (λ made. Parted connects calls old kept place done made new last)
        → Tells first end_seen (λ made. Balanced connects calls old kept place heading done made new last)
    balanced_many done more t =
        let e = count_is in
        balanced_part has ends honest connects calls law kept last place heading found old new first end_seen is done low (lt-ltb 300 (length (way_of heading found).waiting) (omega (arith, e, more))) t

    module _ (set : Option ℕ) (set_is : (units : List MarkedUnit) → length units ≡ left → set ≡ credit_now (kept.rules).credit way.lowered units) where
      credit_is : credit_now (kept.rules).credit (way_of heading found).lowered (way_of heading found).waiting ≡ set
      credit_is =
          ap (λ (w : Way). credit_now (kept.rules).credit w.lowered (way_of heading found).waiting) (sym way_is) ∙ sym (set_is (way_of heading found).waiting count_is)

      pub set_low : (credit : ℕ) → set ≡ Some credit → (kept.rules).credit ≤ 255 → IsCall (asks.Window credit)
      set_low credit now most = credit_low (kept.rules).credit credit (way_of heading found).lowered (way_of heading found).waiting most (credit_is ∙ now)

      pub balanced_set : (done : Bool) (credit near : ℕ) (again : Pair) → left ≤ 300 → set ≡ Some credit → again ≡ get_or kept.pairs place again → near ≡ near_end heading again
          → Tells first end_seen (λ made. Asked calls old kept near (asks.Window credit) done made new last) → Tells first end_seen (λ made. Balanced connects calls old kept place heading done made new last)
      balanced_set done credit near again most now once_more near_is t =
          balanced_credit has ends honest connects calls law kept last place heading found old new first end_seen is done credit (few most) (credit_is ∙ now)
          (subst (λ (n : ℕ). Tells first end_seen (λ made. Asked calls old kept n (asks.Window credit) done made new last))
          (near_is ∙ ap (near_end heading) (same_read kept.pairs place found again low is once_more)) t)

      pub balanced_still : left ≤ 300 → set ≡ None → Tells first first (λ made. Balanced connects calls old kept place heading false made old kept)
      balanced_still most now = balanced_none has ends honest connects calls law kept place heading found old first is (few most) (credit_is ∙ now)
