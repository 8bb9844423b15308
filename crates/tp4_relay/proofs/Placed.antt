-- What is changed at a place is changed by its number: at the place of an end its pair, and nothing where no pair has the end.
use Rattle.std.proofs.Common.{◌≡◌, ℕ, zero, suc, ◌<◌, ◌==◌, Bool, true, false, List, [], ◌∷◌, length, get_or, set, map, Option, Some, None, Result, Ok, Err, refl, sym, ◌∙◌, ap, subst, arith, ◌||◌, ◌&&◌}
use Rattle.std.specs.Prelude.{if◌then◌else◌, IfSome, IfNone}
use Rattle.std.specs.List.{list_any}
use Rattle.std.specs.Option.{is_some}
use Rattle.std.specs.Result.{OnErr}
use Rattle.std.proofs.lemmas.Bool.{eq-eqb, ne_eqb}
use Rattle.tpdu.specs.declared.service.Options.{Options}
use Rattle.tp4_conn.specs.declared.call.UserCall.TheVariants as asks
use Rattle.tp4_relay.specs.declared.claim.Claim.{Claim}
use Rattle.tp4_relay.specs.declared.reaction.Reaction.TheVariants.{Nothing, Ask}
use Rattle.tp4_relay.specs.declared.pair.Pair.{Pair}
use Rattle.tp4_relay.specs.declared.pair.Phase.TheVariants.{Begun}
use Rattle.tp4_relay.specs.Kept.{is_lost, lost}
use Rattle.tp4_relay.specs.Pairs.{AtEnd, Change, change_inbound, change_outbound, changed, inbound_changed, is_closed, new_pair}
use Rattle.tp4_relay.specs.Reaction.{confirms, inbound_pair, outbound_pair}
use Rattle.tp4_relay.specs.steps.Rising.{IsMissedBy, IsPlaceBy, IsRisingBy, claim_of, inbound_of, outbound_of}
use Rattle.tp4_relay.specs.steps.Tables.{is_claimed}
use Rattle.tp4_relay.proofs.Columns.{inbound_first, missed_any, missed_change, missed_first, outbound_first, placed_any, placed_change, placed_first}
use Rattle.tp4_relay.proofs.Journals.{inbound_same}
use Rattle.tp4_relay.proofs.Tidy.{rises_map}

-- a fact holds on an error, whatever the answer is
pub on_err : {A E : Type 0} (r : Result A E) (P : Type 0) → P → OnErr r P
on_err (Ok x) P fact = tt
on_err (Err e) P fact = fact

-- some pair
abbrev pub some_pair : Pair
some_pair = new_pair 0 0 Begun

-- a change by inbound ends leaves the column of outbound ends
pub outbounds_still : (at : AtEnd) (pairs now : List Pair) → now ≡ change_inbound at pairs → IsRisingBy outbound_of pairs → IsRisingBy outbound_of now
outbounds_still at pairs now is rises = subst (IsRisingBy outbound_of) (sym is) (by at)
  where
    by : (at : AtEnd) → IsRisingBy outbound_of (change_inbound at pairs)
    by None = rises
    by (Some a) = rises_map outbound_of (inbound_changed a.0 a.1) (λ pair. (inbound_same a.0 a.1 pair).1) pairs rises

module _ (pairs : List Pair) (end : ℕ) where
  pub set_inbound : (place : ℕ) (change : Change) → IsRisingBy inbound_of pairs → IsPlaceBy inbound_of end place pairs → (d : Pair) → set pairs place (changed (get_or pairs place d) change) ≡ change_inbound (Some (end, change)) pairs
  set_inbound place change rises p d = sym (placed_change inbound_of end (λ (q : Pair). changed q change) pairs place d rises p)

  pub set_outbound : (place : ℕ) (change : Change) → IsRisingBy outbound_of pairs → IsPlaceBy outbound_of end place pairs → (d : Pair) → set pairs place (changed (get_or pairs place d) change) ≡ change_outbound (Some (end, change)) pairs
  set_outbound place change rises p d = sym (placed_change outbound_of end (λ (q : Pair). changed q change) pairs place d rises p)

  pub missed_inbound : (change : Change) → IsMissedBy inbound_of end pairs → pairs ≡ change_inbound (Some (end, change)) pairs
  missed_inbound change none = sym (missed_change inbound_of end (λ (q : Pair). changed q change) pairs none)

  pub missed_outbound : (change : Change) → IsMissedBy outbound_of end pairs → pairs ≡ change_outbound (Some (end, change)) pairs
  missed_outbound change none = sym (missed_change outbound_of end (λ (q : Pair). changed q change) pairs none)

  pub is_outbound : (place : Option ℕ) → IfSome place (λ p. IsPlaceBy outbound_of end p pairs) → IfNone place (IsMissedBy outbound_of end pairs) → is_some place ≡ list_any (λ (pair : Pair). pair.outbound == end) pairs
  is_outbound None some none = sym (missed_any outbound_of end pairs none)
  is_outbound (Some p) some none = sym (placed_any outbound_of end pairs p some)

  pub inbound_there : (place : ℕ) (d : Pair) → IsRisingBy inbound_of pairs → IsPlaceBy inbound_of end place pairs → inbound_pair pairs end ≡ Some (get_or pairs place d)
  inbound_there place d rises p = inbound_first pairs end ∙ placed_first inbound_of end pairs place d rises p.bound (p.is d)

  pub outbound_there : (place : ℕ) (d : Pair) → IsRisingBy outbound_of pairs → IsPlaceBy outbound_of end place pairs → outbound_pair pairs end ≡ Some (get_or pairs place d)
  outbound_there place d rises p = outbound_first pairs end ∙ placed_first outbound_of end pairs place d rises p.bound (p.is d)

  pub inbound_missing : IsMissedBy inbound_of end pairs → inbound_pair pairs end ≡ None
  inbound_missing none = inbound_first pairs end ∙ missed_first inbound_of end pairs none

  pub outbound_missing : IsMissedBy outbound_of end pairs → outbound_pair pairs end ≡ None
  outbound_missing none = outbound_first pairs end ∙ missed_first outbound_of end pairs none

module _ (claims : List Claim) (end : ℕ) where
  pub is_claimed_by : (place : Option ℕ) → IfSome place (λ p. IsPlaceBy claim_of end p claims) → IfNone place (IsMissedBy claim_of end claims) → is_some place ≡ is_claimed claims end
  is_claimed_by None some none = sym (missed_any claim_of end claims none)
  is_claimed_by (Some p) some none = sym (placed_any claim_of end claims p some)

  pub set_lost : (place : ℕ) → IsRisingBy claim_of claims → IsPlaceBy claim_of end place claims → (d : Claim) → set claims place (record (get_or claims place d) { gone = true }) ≡ map (lost end) claims
  set_lost place rises p d = sym (placed_change claim_of end (λ (c : Claim). record c { gone = true }) claims place d rises p)

  pub missed_lost : IsMissedBy claim_of end claims → claims ≡ map (lost end) claims
  missed_lost none = sym (missed_change claim_of end (λ (c : Claim). record c { gone = true }) claims none)

-- whether an end went, at its place
pub no_loss : (end : ℕ) (claims : List Claim) → IsMissedBy claim_of end claims → is_lost claims end ≡ false
no_loss end [] none = refl
no_loss end (claim ∷ claims) none =
    ap (λ (b : Bool). (b && claim.gone) || is_lost claims end) (ne_eqb claim.end end (none 0 claim (omega arith))) ∙ no_loss end claims (λ k d low. none (suc k) d (omega (arith, low)))

or_none : (b : Bool) → (b || false) ≡ b
or_none true = refl
or_none false = refl

pub loss_at : (end : ℕ) (claims : List Claim) (place : ℕ) (d : Claim) → IsRisingBy claim_of claims → place < length claims → (get_or claims place d).end ≡ end → is_lost claims end ≡ (get_or claims place d).gone
loss_at end [] place d rises low is = absurd (omega (arith, low))
loss_at end (claim ∷ claims) zero d rises low is =
    ap (λ (b : Bool). (b && claim.gone) || is_lost claims end) (eq-eqb claim.end end is)
    ∙ ap (λ (b : Bool). claim.gone || b) (no_loss end claims (λ k e high same. (let r = rises 0 (suc k) e (omega arith) (omega (arith, high)) in omega (arith, r, same, is))))
    ∙ or_none claim.gone
loss_at end (claim ∷ claims) (suc place) d rises low is =
    let r = rises 0 (suc place) d (omega arith) low in
    ap (λ (b : Bool). (b && claim.gone) || is_lost claims end) (ne_eqb claim.end end (λ same. omega (arith, r, same, is)))
    ∙ loss_at end claims place d (λ i j e less high. rises (suc i) (suc j) e (omega (arith, less)) (omega (arith, high))) (omega (arith, low)) is

-- ---- what is done about the pair of an outbound end that is confirmed

module _ (options : Options) (octets : List ℕ) (pairs : List Pair) (end place : ℕ) (d : Pair) (rises : IsRisingBy outbound_of pairs) (p : IsPlaceBy outbound_of end place pairs) where
  confirms_by : (b : Bool) → is_closed (get_or pairs place d).phase ≡ b
      → (if b then Nothing else Ask (get_or pairs place d).inbound (asks.Accept options octets)) ≡ confirms options octets (outbound_pair pairs end)
  confirms_by b is =
      sym (ap (confirms options octets) (outbound_there pairs end place d rises p) ∙ ap (λ (x : Bool). if x then Nothing else Ask (get_or pairs place d).inbound (asks.Accept options octets)) is)

  pub confirms_closed : is_closed (get_or pairs place d).phase ≡ true → Nothing ≡ confirms options octets (outbound_pair pairs end)
  confirms_closed is = confirms_by true is

  pub confirms_open : is_closed (get_or pairs place d).phase ≡ false → Ask (get_or pairs place d).inbound (asks.Accept options octets) ≡ confirms options octets (outbound_pair pairs end)
  confirms_open is = confirms_by false is
