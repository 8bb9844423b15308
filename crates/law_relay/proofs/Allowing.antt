-- What a pump tells for an open pair may come in a journal in which a relay takes part: units that wait are submitted in order (X.214, model of the transport service).
use Rattle.std.proofs.Common.{◌≡◌, inl, inr, ℕ, Bool, true, false, nat_lt, List, [], ◌∷◌, ◌++◌, length, Option, Some, None, refl, sym, ◌∙◌, ap, subst}
use Rattle.std.specs.Prelude.{drop, slice_get}
use Rattle.script_journal.specs.declared.event.Event.{Event}
use Rattle.tp4_conn.specs.declared.call.ConnectRequest.{ConnectRequest}
use Rattle.tp4_conn.specs.declared.call.UserCall.{UserCall}
use Rattle.tp4_conn.specs.declared.call.UserCall.TheVariants as asks
use Rattle.tp4_conn.specs.declared.timers.Timers.{Timers}
use Rattle.tp4_relay.specs.declared.pair.Heading.{Heading}
use Rattle.tp4_relay.specs.declared.pair.Heading.TheVariants.{On, Back}
use Rattle.tp4_relay.specs.declared.pair.Pair.{Pair}
use Rattle.tp4_relay.specs.declared.pair.Phase.{Phase}
use Rattle.tp4_relay.specs.declared.pair.Phase.TheVariants.{Open}
use Rattle.tp4_relay.specs.declared.unit.MarkedUnit.{MarkedUnit}
use Rattle.tp4_relay.specs.Allowed.{AreAllowed}
use Rattle.tp4_relay.specs.Kept.{Kept, kept_after}
use Rattle.tp4_relay.specs.Pairs.{Gives, changed, is_open}
use Rattle.tp4_relay.specs.Pump.{BalancesBy, Parts, ServesIf, ServesOpen, ServesPair, SetsCredit, Submits, credit_now, far_end, near_end, unit_call, way_of}
use Rattle.tp4_relay.specs.Service.{IsService}
use Rattle.tp4_relay.specs.steps.Making.{MayAsk}
use Rattle.tp4_relay.specs.steps.Tables.{IsTidy}
use Rattle.tp4_relay.proofs.Commuting.{allowed_more}
use Rattle.tp4_relay.proofs.Giving.{first_gone, may_submit}
use Rattle.tp4_relay.proofs.Served.{call_allowed}
use Rattle.tp4_relay.proofs.Tidy.{all_notable, tidy_all}

-- ---- a pair after its first unit was submitted

gives_phase : (heading : Heading) (pair : Pair) → (changed pair (Gives heading)).phase ≡ pair.phase
gives_phase On pair = refl
gives_phase Back pair = refl

gives_far : (heading : Heading) (pair : Pair) → far_end heading (changed pair (Gives heading)) ≡ far_end heading pair
gives_far On pair = refl
gives_far Back pair = refl

gives_waiting : (heading : Heading) (pair : Pair) → (way_of heading (changed pair (Gives heading))).waiting ≡ drop 1 (way_of heading pair).waiting
gives_waiting On pair = refl
gives_waiting Back pair = refl

open_is : (phase : Phase) → is_open phase ≡ true → phase ≡ Open
open_is Open is = refl
open_is other is = absurd (cc is)

module _ {S : Type 0} (has : S → ℕ → Type 0) (ends : S → ℕ) (honest : S → Bool) (connects : S → ℕ → ConnectRequest → Bool → List Event → S → Type 0)
    (calls : S → ℕ → UserCall → Bool → List Event → S → Type 0) (law : IsService has ends honest connects calls) where
  one_allowed : (old new : S) (kept : Kept) (end : ℕ) (call : UserCall) (done : Bool) (made : List Event) → MayAsk kept end call → calls old end call done made new → AreAllowed kept made
  one_allowed old new kept end call done made may c = call_allowed has ends honest connects calls law kept end call done old made new may c

  none_allowed : (kept : Kept) (made : List Event) → made ≡ [] → AreAllowed kept made
  none_allowed kept made none = subst (AreAllowed kept) (sym none) tt

  both_allowed : (kept : Kept) (made here rest : List Event) → made ≡ here ++ rest → AreAllowed kept here → AreAllowed (kept_after kept here) rest → AreAllowed kept made
  both_allowed kept made here rest is one other = subst (AreAllowed kept) (sym is) (allowed_more kept here rest one other)

  submits_allowed : (units : List MarkedUnit) (old new : S) (kept : Kept) (place : ℕ) (heading : Heading) (pair : Pair) (done : Bool) (made : List Event) (left : List MarkedUnit) → slice_get kept.pairs place ≡ Some pair
      → pair.phase ≡ Open → (way_of heading pair).waiting ≡ units → IsTidy kept → Submits connects calls old (far_end heading pair) units done made new left → AreAllowed kept made
  submits_allowed [] old new kept place heading pair done made left is opens waits tidy s = none_allowed kept made s.1
  submits_allowed (unit ∷ units) old new kept place heading pair done made left is opens waits tidy (inl s) =
      one_allowed old new kept (far_end heading pair) (unit_call unit) false made (may_submit kept tidy place pair is unit units opens heading waits) s.0
  submits_allowed (unit ∷ units) old new kept place heading pair done made left is opens waits tidy (inr s) =
      let here : List Event = s.2 in
      let first = one_allowed old s.0 kept (far_end heading pair) (unit_call unit) true here (may_submit kept tidy place pair is unit units opens heading waits) s.4 in
      let next : Pair = changed pair (Gives heading) in
      let next_is = first_gone kept tidy place pair is heading unit here (law.told old (far_end heading pair) (unit_call unit) true here s.0 s.4) in
      let next_tidy = tidy_all kept here tidy (all_notable kept here tidy first) in
      both_allowed kept made here s.3 s.7 first
      (submits_allowed units s.0 new (kept_after kept here) place heading next s.1 s.3 left next_is (gives_phase heading pair ∙ opens) (gives_waiting heading pair ∙ ap (drop 1) waits) next_tidy
      (subst (λ (end : ℕ). Submits connects calls s.0 end units s.1 s.3 new left) (sym (gives_far heading pair)) s.5))

  parts_allowed : (old new : S) (kept : Kept) (pair : Pair) (done : Bool) (made : List Event) → Parts connects calls old pair done made new → AreAllowed kept made
  parts_allowed old new kept pair done made s =
      both_allowed kept made s.3 s.4 s.8 (one_allowed old s.0 kept pair.inbound (asks.Disconnect []) s.1 s.3 tt s.5) (one_allowed s.0 new (kept_after kept s.3) pair.outbound (asks.Disconnect []) s.2 s.4 tt s.6)

  credit_allowed : (old new : S) (kept : Kept) (end : ℕ) (credit : Option ℕ) (done : Bool) (made : List Event) → SetsCredit connects calls old end credit done made new → AreAllowed kept made
  credit_allowed old new kept end None done made s = none_allowed kept made s.1
  credit_allowed old new kept end (Some credit) done made s = one_allowed old new kept end (asks.Window credit) done made tt s

  balance_allowed : (many : Bool) (old new : S) (kept : Kept) (rules : Timers) (heading : Heading) (pair : Pair) (left : List MarkedUnit) (done : Bool) (made : List Event)
      → BalancesBy connects calls many old rules heading pair left done made new → AreAllowed kept made
  balance_allowed true old new kept rules heading pair left done made s = parts_allowed old new kept pair done made s
  balance_allowed false old new kept rules heading pair left done made s = credit_allowed old new kept (near_end heading pair) (credit_now rules.credit (way_of heading pair).lowered left) done made s

  open_allowed : (opens : Bool) (old new : S) (kept : Kept) (place : ℕ) (rules : Timers) (heading : Heading) (pair : Pair) (done : Bool) (made : List Event) → is_open pair.phase ≡ opens → slice_get kept.pairs place ≡ Some pair → IsTidy kept
      → ServesOpen connects calls opens old rules heading pair done made new → AreAllowed kept made
  open_allowed false old new kept place rules heading pair done made opens is tidy s = none_allowed kept made s.1
  open_allowed true old new kept place rules heading pair done made opens is tidy s =
      both_allowed kept made s.here s.rest s.made_is
      (submits_allowed (way_of heading pair).waiting old s.mid kept place heading pair s.one s.here s.left is (open_is pair.phase opens) refl tidy s.submits)
      (balance_allowed (nat_lt 300 (length s.left)) s.mid new (kept_after kept s.here) rules heading pair s.left s.other s.rest s.balances)

  -- one way of the pair at a place
  way_allowed : (found : Option Pair) (old new : S) (kept : Kept) (place : ℕ) (rules : Timers) (heading : Heading) (done : Bool) (made : List Event) → slice_get kept.pairs place ≡ found → IsTidy kept
      → ServesIf connects calls old rules heading found done made new → AreAllowed kept made
  way_allowed None old new kept place rules heading done made is tidy s = none_allowed kept made s.1
  way_allowed (Some pair) old new kept place rules heading done made is tidy s = open_allowed (is_open pair.phase) old new kept place rules heading pair done made refl is tidy s

  -- and both
  pub pair_allowed : (old new : S) (kept : Kept) (place : ℕ) (done : Bool) (made : List Event) → IsTidy kept → ServesPair connects calls old kept place done made new → AreAllowed kept made
  pair_allowed old new kept place done made tidy s =
      let first = way_allowed (slice_get kept.pairs place) old s.mid kept place kept.rules On s.one s.here refl tidy s.on in
      let mid : Kept = kept_after kept s.here in
      let mid_tidy = tidy_all kept s.here tidy (all_notable kept s.here tidy first) in
      both_allowed kept made s.here s.rest s.made_is first (way_allowed (slice_get mid.pairs place) s.mid new mid place mid.rules Back s.other s.rest refl mid_tidy s.back)
