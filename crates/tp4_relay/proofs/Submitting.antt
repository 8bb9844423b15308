-- One turn of the loop that submits what waits: the first unit that is left is asked for, and is gone then where it was taken.
use Rattle.std.proofs.Common.{◌≡◌, ℕ, ◌<◌, ◌≤◌, Bool, true, false, List, [], ◌∷◌, length, get_or, Option, Some, None, refl, sym, ◌∙◌, ap, subst, arith}
use Rattle.std.specs.List.{slice_get}
use Rattle.std.proofs.lemmas.Option.{get_or_from_slice_get, slice_get_within}
use Rattle.script_journal.specs.declared.event.Event.{Event}
use Rattle.tp4_conn.specs.declared.call.ConnectRequest.{ConnectRequest}
use Rattle.tp4_conn.specs.declared.call.UserCall.{UserCall}
use Rattle.tp4_conn.specs.declared.timers.Timers.{Timers}
use Rattle.tp4_conn.specs.Calls.{IsCall}
use Rattle.tp4_relay.specs.declared.pair.Heading.{Heading}
use Rattle.tp4_relay.specs.declared.pair.Heading.TheVariants.{On, Back}
use Rattle.tp4_relay.specs.declared.pair.Pair.{Pair}
use Rattle.tp4_relay.specs.declared.unit.MarkedUnit.{MarkedUnit}
use Rattle.tp4_relay.specs.declared.unit.MarkedUnit.TheVariants.{Normal, Expedited}
use Rattle.tp4_relay.specs.Kept.{Kept, kept_after}
use Rattle.tp4_relay.specs.Pump.{far_end, unit_call, way_of}
use Rattle.tp4_relay.specs.Service.{IsService, Tells, ToldBy}
use Rattle.tp4_relay.specs.steps.Making.{MayAsk}
use Rattle.tp4_relay.specs.steps.Serving.{Asked, Submitted, Submitting, first_call, left_count, with_left}
use Rattle.tp4_relay.specs.steps.Tables.{IsTidy}
use Rattle.tp4_relay.proofs.Giving.{first_gone, left_far, left_first, left_waiting, may_submit}
use Rattle.tp4_relay.proofs.Served.{pairs_grow, submitted_refused, submitting_more}
use Rattle.tp4_relay.proofs.Telling.{rules_stay}

-- ---- what stays while pairs are served

pub credit_stays : (kept last : Kept) (made : List Event) → last ≡ kept_after kept made → (kept.rules).credit ≤ 255 → (last.rules).credit ≤ 255
credit_stays kept last made is low =
    let e : (last.rules).credit ≡ (kept.rules).credit = ap (λ (k : Kept). (k.rules).credit) is ∙ ap (λ (r : Timers). r.credit) (rules_stay kept made) in
    omega (arith, e, low)

pub place_stays : (kept last : Kept) (made : List Event) (place : ℕ) → last ≡ kept_after kept made → place < length kept.pairs → place < length last.pairs
place_stays kept last made place is low =
    let e : length last.pairs ≡ length (kept_after kept made).pairs = ap (λ (k : Kept). length k.pairs) is in
    let g = pairs_grow kept made in
    omega (arith, e, g, low)

-- ---- the call for the first unit

-- the call submits the first of these units
pub record IsFirstCall (call : UserCall) (left : List MarkedUnit) : Type 0 where
  pub unit : MarkedUnit
  pub rest : List MarkedUnit
  pub is : left ≡ unit ∷ rest
  pub call_is : call ≡ unit_call unit

first_some : (left : List MarkedUnit) (call : UserCall) → Some call ≡ first_call left → IsFirstCall call left
first_some [] call is = absurd (cc)
first_some (unit ∷ rest) call is = record { unit = unit; rest = rest; is = refl; call_is = cc }

first_none : (left : List MarkedUnit) (slot : Option UserCall) → slot ≡ None → slot ≡ first_call left → left ≡ []
first_none [] slot none is = refl
first_none (unit ∷ rest) slot none is = absurd (cc)

unit_is_call : (unit : MarkedUnit) → IsCall (unit_call unit)
unit_is_call (Normal octets) = tt
unit_is_call (Expedited octets) = tt

pub first_is_call : (call : UserCall) (left : List MarkedUnit) → IsFirstCall call left → IsCall call
first_is_call call left f = subst IsCall (sym f.call_is) (unit_is_call f.unit)

left_phase : (heading : Heading) (left : List MarkedUnit) (pair : Pair) → (with_left heading left pair).phase ≡ pair.phase
left_phase On left pair = refl
left_phase Back left pair = refl

left_is : (heading : Heading) (found : Option Pair) (left : List MarkedUnit) (pair : Pair) → found ≡ Some (with_left heading left pair) → left_count heading found ≡ length left
left_is heading found left pair is = ap (left_count heading) is ∙ ap (λ (us : List MarkedUnit). length us) (left_waiting heading left pair)

-- ---- the turn

module _ {S : Type 0} (has : S → ℕ → Type 0) (ends : S → ℕ) (honest : S → Bool) (connects : S → ℕ → ConnectRequest → Bool → List Event → S → Type 0)
    (calls : S → ℕ → UserCall → Bool → List Event → S → Type 0) (law : IsService has ends honest connects calls) (kept : Kept) (place : ℕ) (heading : Heading) (first : S) (before : List Event)
    (now : S) (current : Kept) (seen : List Event) (done : Bool) (s : Submitting connects calls first kept place heading before now current seen done) where
  abbrev Next : Option UserCall → Type 0
  Next call = (pair : Pair) → slice_get current.pairs place ≡ Some pair → call ≡ first_call (way_of heading pair).waiting

  next_is : (call : Option UserCall) → Next call → call ≡ first_call s.left
  next_is call next = next (with_left heading s.left s.pair) s.now_is ∙ ap first_call (left_waiting heading s.left s.pair)

  pub turn_first : (slot : Option UserCall) (call : UserCall) → slot ≡ Some call → Next slot → IsFirstCall call s.left
  turn_first slot call is next = first_some s.left call (sym is ∙ next_is slot next)

  pub turn_none : (slot : Option UserCall) → slot ≡ None → Next slot → s.left ≡ []
  turn_none slot is next = first_none s.left slot is (next_is slot next)

  pub turn_place : place < length current.pairs
  turn_place = slice_get_within current.pairs place (with_left heading s.left s.pair) s.now_is

  pub turn_end : (found : Pair) → found ≡ get_or current.pairs place found → far_end heading found ≡ far_end heading s.pair
  turn_end found is =
      ap (far_end heading) (is ∙ get_or_from_slice_get current.pairs place (with_left heading s.left s.pair) found s.now_is) ∙ left_far heading s.left s.pair

  pub turn_may : IsTidy current → (end : ℕ) (call : UserCall) → end ≡ far_end heading s.pair → IsFirstCall call s.left → MayAsk current end call
  turn_may tidy end call end_is f =
      let here : Pair = with_left heading s.left s.pair in
      subst (λ (n : ℕ). MayAsk current n call) (left_far heading s.left s.pair ∙ sym end_is)
      (subst (MayAsk current (far_end heading here)) (sym f.call_is)
      (may_submit current tidy place here s.now_is f.unit f.rest (left_phase heading s.left s.pair ∙ s.is_open) heading (left_waiting heading s.left s.pair ∙ f.is)))

  module _ (new : S) (last : Kept) (later : List Event) (end : ℕ) (call : UserCall) (one : Bool) (end_is : end ≡ far_end heading s.pair) (f : IsFirstCall call s.left)
      (t : Tells seen later (λ made. Asked calls now current end call one made new last)) where
    asked : (taken : Bool) → one ≡ taken → Tells seen later (λ made. Asked calls now current (far_end heading s.pair) (unit_call f.unit) taken made new last)
    asked taken is =
        subst (λ (b : Bool). Tells seen later (λ made. Asked calls now current (far_end heading s.pair) (unit_call f.unit) b made new last)) is
        (subst (λ (x : UserCall). Tells seen later (λ made. Asked calls now current (far_end heading s.pair) x one made new last)) f.call_is
        (subst (λ (n : ℕ). Tells seen later (λ made. Asked calls now current n call one made new last)) end_is t))

    pub turn_refused : one ≡ false → Tells before later (λ made. Submitted connects calls first kept place heading done made new last)
    turn_refused is = submitted_refused has ends honest connects calls law kept place heading first before now new current last seen later done f.unit f.rest s f.is (asked false is)

    pub turn_taken : IsTidy current → one ≡ true → Submitting connects calls first kept place heading before new last later true
    turn_taken tidy is = submitting_more has ends honest connects calls law kept place heading first before now new current last seen later done f.unit f.rest s tidy f.is (asked true is)

    -- what is left then
    turn_left : IsTidy current → one ≡ true → slice_get last.pairs place ≡ Some (with_left heading f.rest s.pair)
    turn_left tidy is =
        let here : Pair = with_left heading (f.unit ∷ f.rest) s.pair in
        let t_is = asked true is in
        let now_is : slice_get current.pairs place ≡ Some here = s.now_is ∙ ap (λ (us : List MarkedUnit). Some (with_left heading us s.pair)) f.is in
        let told : ToldBy (far_end heading here) (unit_call f.unit) true t_is.0 =
        subst (λ (n : ℕ). ToldBy n (unit_call f.unit) true t_is.0) (sym (left_far heading (f.unit ∷ f.rest) s.pair)) (law.told now (far_end heading s.pair) (unit_call f.unit) true t_is.0 new (t_is.2).called) in
        ap (λ (k : Kept). slice_get k.pairs place) (t_is.2).last_is ∙ first_gone current tidy place here now_is heading f.unit t_is.0 told
        ∙ ap (λ (p : Pair). Some p) (left_first heading f.unit f.rest s.pair)

    pub turn_smaller : IsTidy current → one ≡ true → left_count heading (slice_get last.pairs place) < left_count heading (slice_get current.pairs place)
    turn_smaller tidy is =
        let a : left_count heading (slice_get last.pairs place) ≡ length f.rest = left_is heading (slice_get last.pairs place) f.rest s.pair (turn_left tidy is) in
        let b : left_count heading (slice_get current.pairs place) ≡ length s.left = left_is heading (slice_get current.pairs place) s.left s.pair s.now_is in
        let e : length s.left ≡ length (f.unit ∷ f.rest) = ap (λ (us : List MarkedUnit). length us) f.is in
        omega (arith, a, b, e)
