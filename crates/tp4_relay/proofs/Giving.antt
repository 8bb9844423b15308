-- The first unit that waits at an open pair may be submitted at its far end, and is gone then. No other pair has that end.
use Rattle.std.proofs.Common.{◌≡◌, ◌≢◌, inl, inr, ℕ, ◌<◌, ◌==◌, Bool, true, false, List, ◌∷◌, length, get_or, map, Some, refl, sym, ◌∙◌, ap, subst, arith}
use Rattle.std.specs.List.{list_any, slice_get}
use Rattle.std.specs.Option.{option_map}
use Rattle.std.proofs.lemmas.Bool.{cases_lt, eq-eqb, eqb-true, ne_eqb}
use Rattle.std.proofs.lemmas.List.Elements.{All-from_recursion, recursion_from_All}
use Rattle.std.proofs.lemmas.List.Folds.{list_any_at}
use Rattle.std.proofs.lemmas.Option.{get_or_from_slice_get, slice_get-map, slice_get_within}
use Rattle.script_journal.specs.declared.event.Event.{Event}
use Rattle.tp4_relay.specs.declared.pair.Heading.{Heading}
use Rattle.tp4_relay.specs.declared.pair.Heading.TheVariants.{On, Back}
use Rattle.tp4_relay.specs.declared.pair.Pair.{Pair}
use Rattle.tp4_relay.specs.declared.pair.Phase.TheVariants.{Open}
use Rattle.tp4_relay.specs.declared.unit.MarkedUnit.{MarkedUnit}
use Rattle.tp4_relay.specs.declared.unit.MarkedUnit.TheVariants.{Normal, Expedited}
use Rattle.tp4_relay.specs.Allowed.{GivesUnit, IsFirst, MayGive}
use Rattle.tp4_relay.specs.Kept.{Kept, kept_after, noted}
use Rattle.tp4_relay.specs.Pairs.{Change, Gives, changed, inbound_changed, outbound_changed}
use Rattle.tp4_relay.specs.Pump.{far_end, unit_call, way_of}
use Rattle.tp4_relay.specs.Service.{IsOwn, ToldBy}
use Rattle.tp4_relay.specs.steps.Making.{MayAsk}
use Rattle.tp4_relay.specs.steps.Serving.{with_left}
use Rattle.tp4_relay.specs.steps.Tables.{IsTidy, is_claimed}
use Rattle.tp4_relay.proofs.PairsHold.{both_changes, if_changed}
use Rattle.tp4_relay.proofs.Telling.{told_done}

true_not_false : (b : Bool) → b ≡ true → b ≡ false → ⊥
true_not_false true has none = absurd (cc)
true_not_false false has none = absurd (cc)

module _ (kept : Kept) (t : IsTidy kept) (place : ℕ) (pair : Pair) (is : slice_get kept.pairs place ≡ Some pair) where
  low : place < length kept.pairs
  low = slice_get_within kept.pairs place pair is

  here : (d : Pair) → get_or kept.pairs place d ≡ pair
  here d = get_or_from_slice_get kept.pairs place pair d is

  pub inbound_claimed : is_claimed kept.claims pair.inbound ≡ true
  inbound_claimed =
      subst (λ (p : Pair). is_claimed kept.claims p.inbound ≡ true) (here pair) (All-from_recursion (λ (p : Pair). is_claimed kept.claims p.inbound ≡ true) kept.pairs t.claimed place pair low)

  pub outbound_unclaimed : is_claimed kept.claims pair.outbound ≡ false
  outbound_unclaimed =
      subst (λ (p : Pair). is_claimed kept.claims p.outbound ≡ false) (here pair) (All-from_recursion (λ (p : Pair). is_claimed kept.claims p.outbound ≡ false) kept.pairs t.unclaimed place pair low)

  -- a claimed end is no outbound one
  pub ends_differ : (other : Pair) → is_claimed kept.claims other.inbound ≡ true → other.inbound ≢ pair.outbound
  ends_differ other has same = true_not_false (is_claimed kept.claims other.inbound) has (ap (is_claimed kept.claims) same ∙ outbound_unclaimed)

  pub other_differs : (other : Pair) → is_claimed kept.claims other.outbound ≡ false → other.outbound ≢ pair.inbound
  other_differs other none same = true_not_false (is_claimed kept.claims other.outbound) (ap (is_claimed kept.claims) same ∙ inbound_claimed) none

  -- a pair with the same outbound end, or inbound end, is this one
  same_outbound : (k : ℕ) (d : Pair) → k < length kept.pairs → (get_or kept.pairs k d).outbound ≡ pair.outbound → get_or kept.pairs k d ≡ pair
  same_outbound k d high same = elim (cases_lt k place) [
    | inl less ↦ (let r = t.outbounds k place d less low in let e = ap (λ (p : Pair). p.outbound) (here d) in absurd (omega (arith, r, e, same)))
    | inr more ↦ elim (cases_lt place k) [
      | inl less ↦ (let r = t.outbounds place k d less high in let e = ap (λ (p : Pair). p.outbound) (here d) in absurd (omega (arith, r, e, same)))
      | inr at_most ↦ (let e : k ≡ place = omega (arith, more, at_most) in ap (λ (n : ℕ). get_or kept.pairs n d) e ∙ here d)
    ]
  ]

  same_inbound : (k : ℕ) (d : Pair) → k < length kept.pairs → (get_or kept.pairs k d).inbound ≡ pair.inbound → get_or kept.pairs k d ≡ pair
  same_inbound k d high same = elim (cases_lt k place) [
    | inl less ↦ (let r = t.inbounds k place d less low in let e = ap (λ (p : Pair). p.inbound) (here d) in absurd (omega (arith, r, e, same)))
    | inr more ↦ elim (cases_lt place k) [
      | inl less ↦ (let r = t.inbounds place k d less high in let e = ap (λ (p : Pair). p.inbound) (here d) in absurd (omega (arith, r, e, same)))
      | inr at_most ↦ (let e : k ≡ place = omega (arith, more, at_most) in ap (λ (n : ℕ). get_or kept.pairs n d) e ∙ here d)
    ]
  ]

  module _ (unit : MarkedUnit) (rest : List MarkedUnit) (is_open : pair.phase ≡ Open) where
    on_each : (pair.on.waiting ≡ unit ∷ rest) → (k : ℕ) (d : Pair) → k < length kept.pairs → MayGive pair.outbound unit (get_or kept.pairs k d)
    on_each first k d high = (
      λ has. (let same = same_outbound k d high (eqb-true (get_or kept.pairs k d).outbound pair.outbound has) in subst (λ (p : Pair). IsFirst p.phase p.on.waiting unit) (sym same) (is_open, rest, first)),
      λ has. absurd (ends_differ (get_or kept.pairs k d) (All-from_recursion (λ (p : Pair). is_claimed kept.claims p.inbound ≡ true) kept.pairs t.claimed k d high)
          (eqb-true (get_or kept.pairs k d).inbound pair.outbound has)),
    )

    back_each : (pair.back.waiting ≡ unit ∷ rest) → (k : ℕ) (d : Pair) → k < length kept.pairs → MayGive pair.inbound unit (get_or kept.pairs k d)
    back_each first k d high = (
      λ has. absurd (other_differs (get_or kept.pairs k d) (All-from_recursion (λ (p : Pair). is_claimed kept.claims p.outbound ≡ false) kept.pairs t.unclaimed k d high)
          (eqb-true (get_or kept.pairs k d).outbound pair.inbound has)),
      λ has. (let same = same_inbound k d high (eqb-true (get_or kept.pairs k d).inbound pair.inbound has) in subst (λ (p : Pair). IsFirst p.phase p.back.waiting unit) (sym same) (is_open, rest, first)),
    )

    gives_unit : (heading : Heading) → (way_of heading pair).waiting ≡ unit ∷ rest → GivesUnit kept (far_end heading pair) unit
    gives_unit On first = (λ u. true_not_false (is_claimed kept.claims pair.outbound) u.0 outbound_unclaimed, recursion_from_All (MayGive pair.outbound unit) kept.pairs (on_each first))
    gives_unit Back first = (
      λ u. true_not_false (list_any (λ (p : Pair). p.inbound == pair.inbound) kept.pairs)
          (list_any_at (λ (p : Pair). p.inbound == pair.inbound) kept.pairs place pair low (eq-eqb (get_or kept.pairs place pair).inbound pair.inbound (ap (λ (p : Pair). p.inbound) (here pair)))) u.1,
      recursion_from_All (MayGive pair.inbound unit) kept.pairs (back_each first),
    )

    pub may_submit : (heading : Heading) → (way_of heading pair).waiting ≡ unit ∷ rest → MayAsk kept (far_end heading pair) (unit_call unit)
    may_submit heading first = by unit (gives_unit heading first)
      where
        by : (u : MarkedUnit) → GivesUnit kept (far_end heading pair) u → MayAsk kept (far_end heading pair) (unit_call u)
        by (Normal octets) may = may
        by (Expedited octets) may = may

  -- a pair after both changes of an event of its far end
  pub changed_at : (end : ℕ) (first second : Change) → slice_get (map (outbound_changed end second) (map (inbound_changed end first) kept.pairs)) place
      ≡ Some (if_changed (pair.outbound == end) second (if_changed (pair.inbound == end) first pair))
  changed_at end first second =
      slice_get-map (outbound_changed end second) (map (inbound_changed end first) kept.pairs) place
      ∙ ap (option_map (outbound_changed end second)) (slice_get-map (inbound_changed end first) kept.pairs place ∙ ap (option_map (inbound_changed end first)) is)
      ∙ ap (λ (p : Pair). Some p) (both_changes end first second pair)

  given : (heading : Heading) → slice_get (map (outbound_changed (far_end heading pair) (Gives On)) (map (inbound_changed (far_end heading pair) (Gives Back)) kept.pairs)) place ≡ Some (changed pair (Gives heading))
  given On =
      changed_at pair.outbound (Gives Back) (Gives On)
      ∙ ap (λ (b : Bool). Some (if_changed b (Gives On) (if_changed (pair.inbound == pair.outbound) (Gives Back) pair))) (eq-eqb pair.outbound pair.outbound refl)
      ∙ ap (λ (b : Bool). Some (changed (if_changed b (Gives Back) pair) (Gives On))) (ne_eqb pair.inbound pair.outbound (ends_differ pair inbound_claimed))
  given Back =
      changed_at pair.inbound (Gives Back) (Gives On)
      ∙ ap (λ (b : Bool). Some (if_changed b (Gives On) (if_changed (pair.inbound == pair.inbound) (Gives Back) pair))) (ne_eqb pair.outbound pair.inbound (other_differs pair outbound_unclaimed))
      ∙ ap (λ (b : Bool). Some (if_changed b (Gives Back) pair)) (eq-eqb pair.inbound pair.inbound refl)

  given_event : (heading : Heading) (unit : MarkedUnit) (own : Event) → IsOwn (far_end heading pair) (unit_call unit) own → slice_get (noted kept own).pairs place ≡ Some (changed pair (Gives heading))
  given_event heading (Normal octets) own same = ap (λ (e : Event). slice_get (noted kept e).pairs place) same ∙ given heading
  given_event heading (Expedited octets) own same = ap (λ (e : Event). slice_get (noted kept e).pairs place) same ∙ given heading

  -- the first that waits is gone, after the call that submits it
  pub first_gone : (heading : Heading) (unit : MarkedUnit) (made : List Event) → ToldBy (far_end heading pair) (unit_call unit) true made → slice_get (kept_after kept made).pairs place ≡ Some (changed pair (Gives heading))
  first_gone heading unit made told =
      ap (λ (k : Kept). slice_get k.pairs place) (told_done kept (far_end heading pair) (unit_call unit) made told) ∙ given_event heading unit told.0 told.3

pub left_first : (heading : Heading) (unit : MarkedUnit) (rest : List MarkedUnit) (pair : Pair) → changed (with_left heading (unit ∷ rest) pair) (Gives heading) ≡ with_left heading rest pair
left_first On unit rest pair = refl
left_first Back unit rest pair = refl

pub left_far : (heading : Heading) (left : List MarkedUnit) (pair : Pair) → far_end heading (with_left heading left pair) ≡ far_end heading pair
left_far On left pair = refl
left_far Back left pair = refl

pub left_waiting : (heading : Heading) (left : List MarkedUnit) (pair : Pair) → (way_of heading (with_left heading left pair)).waiting ≡ left
left_waiting On left pair = refl
left_waiting Back left pair = refl

pub left_all : (heading : Heading) (pair : Pair) → with_left heading (way_of heading pair).waiting pair ≡ pair
left_all On pair = refl
left_all Back pair = refl
