-- What the steps of a pump leave of each pair: the pair that is served has nothing left to go, or its next unit was refused, and all others are as they were.
use Rattle.std.proofs.Common.{◌≡◌, ◌≢◌, ◌⊎◌, inl, inr, ℕ, zero, suc, ◌+◌, ◌<◌, ◌==◌, Bool, true, false, List, [], ◌∷◌, ◌++◌, length, get_or, map, Option, Some, None, refl, sym, ◌∙◌, ap, subst, arith}
use Rattle.std.specs.Prelude.{nat_lt, if◌then◌else◌}
use Rattle.std.specs.List.{AllByRecursion, slice_get}
use Rattle.std.specs.Option.{option_map}
use Rattle.std.proofs.lemmas.Bool.{cases_lt, eq-eqb, ne_eqb}
use Rattle.std.proofs.lemmas.List.{append-nil}
use Rattle.std.proofs.lemmas.List.Elements.{recursion_from_All}
use Rattle.std.proofs.lemmas.Option.{get_or_from_slice_get, slice_get-get_or, slice_get-map, slice_get_within}
use Rattle.script_journal.specs.declared.event.Event.{Event}
use Rattle.script_journal.specs.declared.event.Event.TheVariants as events
use Rattle.tp4_conn.specs.declared.call.ConnectRequest.{ConnectRequest}
use Rattle.tp4_conn.specs.declared.call.UserCall.{UserCall}
use Rattle.tp4_conn.specs.declared.call.UserCall.TheVariants as asks
use Rattle.tp4_conn.specs.declared.timers.Timers.{Timers}
use Rattle.tp4_relay.specs.declared.pair.Heading.{Heading}
use Rattle.tp4_relay.specs.declared.pair.Heading.TheVariants.{On, Back}
use Rattle.tp4_relay.specs.declared.pair.Pair.{Pair}
use Rattle.tp4_relay.specs.declared.pair.Phase.{Phase}
use Rattle.tp4_relay.specs.declared.pair.Phase.TheVariants as phases
use Rattle.tp4_relay.specs.declared.unit.MarkedUnit.{MarkedUnit}
use Rattle.tp4_relay.specs.declared.unit.MarkedUnit.TheVariants.{Normal, Expedited}
use Rattle.tp4_relay.specs.Kept.{Kept, kept_after, noted}
use Rattle.tp4_relay.specs.Laws.{AllButWaiting}
use Rattle.tp4_relay.specs.Leaving.{AreGiven, AreServed, EachRefuses, IfRefuses, LeavesNone, OpenRefuses, PairRefuses, RefusesNext, SubmitRefuses}
use Rattle.script_journal.specs.Lawful.{Marked, shown, submitted}
use Rattle.tp4_relay.specs.Allowed.{marked}
use Rattle.std.proofs.lemmas.Grind.{get_or_default_zero}
use Rattle.osi_base.proofs.Members.{all_weaker}
use Rattle.tp4_relay.proofs.Served.{open_bound, pairs_grow}
use Rattle.tp4_relay.specs.Pairs.{Change, Closes, Gives, Turns, changed, inbound_changed, is_open, open_places, outbound_changed, places_from}
use Rattle.tp4_relay.specs.Pump.{BalancesBy, Parts, PumpStep, ServesAt, ServesEach, ServesIf, ServesOpen, ServesPair, ServesWay, SetsCredit, Submits, credit_now, far_end, near_end, unit_call, way_of}
use Rattle.tp4_relay.specs.Service.{IsOwn, IsService, ToldBy}
use Rattle.tp4_relay.specs.steps.Making.{MayAsk}
use Rattle.tp4_relay.specs.steps.Rising.{IsRisingBy, inbound_of, outbound_of}
use Rattle.tp4_relay.specs.steps.Serving.{with_left}
use Rattle.tp4_relay.specs.steps.Tables.{IsTidy}
use Rattle.tp4_relay.proofs.Commuting.{kept_more}
use Rattle.tp4_relay.proofs.Giving.{changed_at, ends_differ, first_gone, inbound_claimed, left_all, left_far, left_first, left_waiting, may_submit, other_differs, outbound_unclaimed}
use Rattle.tp4_relay.proofs.PairsHold.{PairHolds, if_changed}
use Rattle.tp4_relay.proofs.Telling.{told_allowed, told_done, told_refused}
use Rattle.tp4_relay.proofs.Tidy.{all_notable, tidy_all}
use Rattle.tpdu.specs.declared.service.EndTold.TheVariants as tells

-- ---- other pairs

abbrev OthersStay : Kept → ℕ → Kept → Type 0
OthersStay kept place last = (other : ℕ) → other ≢ place → slice_get last.pairs other ≡ slice_get kept.pairs other

others_same : (kept last : Kept) (place : ℕ) → last ≡ kept → OthersStay kept place last
others_same kept last place is other apart = ap (λ (k : Kept). slice_get k.pairs other) is

others_more : (kept middle last : Kept) (place : ℕ) → OthersStay kept place middle → OthersStay middle place last → OthersStay kept place last
others_more kept middle last place a b other apart = b other apart ∙ a other apart

rising_apart : (number : Pair → ℕ) (pairs : List Pair) (i j : ℕ) (x y : Pair) → IsRisingBy number pairs → i ≢ j → slice_get pairs i ≡ Some x → slice_get pairs j ≡ Some y → number x ≢ number y
rising_apart number pairs i j x y rises apart here there same =
    let a = get_or_from_slice_get pairs i x x here in
    let b = get_or_from_slice_get pairs j y x there in
    let na = ap number a in
    let nb = ap number b in
    elim (cases_lt i j) [
      | inl less ↦ (let r = rises i j x less (slice_get_within pairs j y there) in omega (arith, r, na, nb, same))
      | inr more ↦ elim (cases_lt j i) [
        | inl less ↦ (let r = rises j i x less (slice_get_within pairs i x here) in omega (arith, r, na, nb, same))
        | inr most ↦ apart (omega (arith, more, most))
      ]
    ]

-- the pair is served at these ends
abbrev IsEndOf : Pair → ℕ → Type 0
IsEndOf pair end = (end ≡ pair.inbound) ⊎ (end ≡ pair.outbound)

module _ (kept : Kept) (tidy : IsTidy kept) (place : ℕ) (pair : Pair) (is : slice_get kept.pairs place ≡ Some pair) where
  -- an end of the pair is none of another pair
  other_ends : (other : ℕ) (p : Pair) → other ≢ place → slice_get kept.pairs other ≡ Some p → (end : ℕ) → IsEndOf pair end → (p.inbound ≢ end) × (p.outbound ≢ end)
  other_ends other p apart there end (inl e) = (
    λ same. rising_apart inbound_of kept.pairs other place p pair tidy.inbounds apart there is (same ∙ e),
    λ same. other_differs kept tidy place pair is p (outbound_unclaimed kept tidy other p there) (same ∙ e),
  )
  other_ends other p apart there end (inr e) = (
    λ same. ends_differ kept tidy place pair is p (inbound_claimed kept tidy other p there) (same ∙ e),
    λ same. rising_apart outbound_of kept.pairs other place p pair tidy.outbounds apart there is (same ∙ e),
  )

  -- changes at an end of the pair
  others_changed : (end : ℕ) (first second : Change) → IsEndOf pair end → (other : ℕ) → other ≢ place
      → slice_get (map (outbound_changed end second) (map (inbound_changed end first) kept.pairs)) other ≡ slice_get kept.pairs other
  others_changed end first second at other apart =
      slice_get-map (outbound_changed end second) (map (inbound_changed end first) kept.pairs) other ∙ ap (option_map (outbound_changed end second)) (slice_get-map (inbound_changed end first) kept.pairs other)
      ∙ by (slice_get kept.pairs other) refl
    where
      by : (found : Option Pair) → slice_get kept.pairs other ≡ found → option_map (outbound_changed end second) (option_map (inbound_changed end first) found) ≡ found
      by None there = refl
      by (Some p) there =
          let apart_from = other_ends other p apart there end at in
          ap (λ (b : Bool). Some (outbound_changed end second (if b then changed p first else p))) (ne_eqb p.inbound end apart_from.0)
          ∙ ap (λ (b : Bool). Some (if b then changed p second else p)) (ne_eqb p.outbound end apart_from.1)

  -- and what they make of the pair itself
  at_inbound : (first second : Change) → slice_get (map (outbound_changed pair.inbound second) (map (inbound_changed pair.inbound first) kept.pairs)) place ≡ Some (changed pair first)
  at_inbound first second =
      changed_at kept tidy place pair is pair.inbound first second
      ∙ ap (λ (b : Bool). Some (if_changed b second (if_changed (pair.inbound == pair.inbound) first pair))) (ne_eqb pair.outbound pair.inbound (other_differs kept tidy place pair is pair (outbound_unclaimed kept tidy place pair is)))
      ∙ ap (λ (b : Bool). Some (if_changed b first pair)) (eq-eqb pair.inbound pair.inbound refl)

  at_outbound : (first second : Change) → slice_get (map (outbound_changed pair.outbound second) (map (inbound_changed pair.outbound first) kept.pairs)) place ≡ Some (changed pair second)
  at_outbound first second =
      changed_at kept tidy place pair is pair.outbound first second
      ∙ ap (λ (b : Bool). Some (if_changed b second (if_changed (pair.inbound == pair.outbound) first pair))) (eq-eqb pair.outbound pair.outbound refl)
      ∙ ap (λ (b : Bool). Some (changed (if_changed b first pair) second)) (ne_eqb pair.inbound pair.outbound (ends_differ kept tidy place pair is pair (inbound_claimed kept tidy place pair is)))

-- ---- what becomes of the pair that is served

-- its ends stay; where it is open then it was open, and the same units wait
pub record Keeps (pair now : Pair) : Type 0 where
  pub inbound : now.inbound ≡ pair.inbound
  pub outbound : now.outbound ≡ pair.outbound
  pub opens : now.phase ≡ phases.Open → pair.phase ≡ phases.Open
  pub on : now.phase ≡ phases.Open → now.on.waiting ≡ pair.on.waiting
  pub back : now.phase ≡ phases.Open → now.back.waiting ≡ pair.back.waiting

keeps_same : (pair : Pair) → Keeps pair pair
keeps_same pair = record { inbound = refl; outbound = refl; opens = λ h. h; on = λ h. refl; back = λ h. refl }

keeps_turned : (heading : Heading) (pair : Pair) → Keeps pair (changed pair (Turns heading))
keeps_turned On pair = record { inbound = refl; outbound = refl; opens = λ h. h; on = λ h. refl; back = λ h. refl }
keeps_turned Back pair = record { inbound = refl; outbound = refl; opens = λ h. h; on = λ h. refl; back = λ h. refl }

closed_open : phases.Closed ≡ phases.Open → ⊥
closed_open same = absurd (cc)

keeps_closed : (pair : Pair) → Keeps pair (changed pair Closes)
keeps_closed pair = record { inbound = refl; outbound = refl; opens = λ h. absurd (closed_open h); on = λ h. absurd (closed_open h); back = λ h. absurd (closed_open h) }

keeps_more : (pair middle now : Pair) → Keeps pair middle → Keeps middle now → Keeps pair now
keeps_more pair middle now a b = record {
  inbound = b.inbound ∙ a.inbound;
  outbound = b.outbound ∙ a.outbound;
  opens = λ h. a.opens (b.opens h);
  on = λ h. (b.on h ∙ a.on (b.opens h));
  back = λ h. (b.back h ∙ a.back (b.opens h));
}

-- a step on the pair at a place: it stays tidy, the others stay, and the pair is this one then
pub record Steps (kept : Kept) (place : ℕ) (last : Kept) (now : Pair) : Type 0 where
  pub tidy : IsTidy last
  pub others : OthersStay kept place last
  pub is : slice_get last.pairs place ≡ Some now

steps_more : (kept middle last : Kept) (place : ℕ) (between now : Pair) → Steps kept place middle between → Steps middle place last now → Steps kept place last now
steps_more kept middle last place between now a b = record { tidy = b.tidy; others = others_more kept middle last place a.others b.others; is = b.is }

steps_at : (kept last same : Kept) (place : ℕ) (now : Pair) → last ≡ same → Steps kept place last now → Steps kept place same now
steps_at kept last same place now is s = subst (λ (k : Kept). Steps kept place k now) is s

module _ {S : Type 0} (has : S → ℕ → Type 0) (ends : S → ℕ) (honest : S → Bool) (connects : S → ℕ → ConnectRequest → Bool → List Event → S → Type 0)
    (calls : S → ℕ → UserCall → Bool → List Event → S → Type 0) (law : IsService has ends honest connects calls) where
  module _ (kept : Kept) (tidy : IsTidy kept) (place : ℕ) (pair : Pair) (is : slice_get kept.pairs place ≡ Some pair) where
    after_tidy : (end : ℕ) (call : UserCall) (done : Bool) (made : List Event) → MayAsk kept end call → ToldBy end call done made → IsTidy (kept_after kept made)
    after_tidy end call done made may told = tidy_all kept made tidy (all_notable kept made tidy (told_allowed kept end call done made may told))

    refused_steps : (end : ℕ) (call : UserCall) (made : List Event) → MayAsk kept end call → ToldBy end call false made → Steps kept place (kept_after kept made) pair
    refused_steps end call made may told = record {
      tidy = after_tidy end call false made may told;
      others = others_same kept (kept_after kept made) place (told_refused kept end call made told);
      is = ap (λ (k : Kept). slice_get k.pairs place) (told_refused kept end call made told) ∙ is;
    }

    far_is : (heading : Heading) → IsEndOf pair (far_end heading pair)
    far_is On = inr refl
    far_is Back = inl refl

    near_is : (heading : Heading) → IsEndOf pair (near_end heading pair)
    near_is On = inl refl
    near_is Back = inr refl

    given_others : (end : ℕ) → IsEndOf pair end → (unit : MarkedUnit) (own : Event) → IsOwn end (unit_call unit) own → OthersStay kept place (noted kept own)
    given_others end at (Normal octets) own own_is other apart =
        ap (λ (e : Event). slice_get (noted kept e).pairs other) own_is ∙ others_changed kept tidy place pair is end (Gives Back) (Gives On) at other apart
    given_others end at (Expedited octets) own own_is other apart =
        ap (λ (e : Event). slice_get (noted kept e).pairs other) own_is ∙ others_changed kept tidy place pair is end (Gives Back) (Gives On) at other apart

    given_steps : (heading : Heading) (unit : MarkedUnit) (made : List Event) → MayAsk kept (far_end heading pair) (unit_call unit) → ToldBy (far_end heading pair) (unit_call unit) true made
        → Steps kept place (kept_after kept made) (changed pair (Gives heading))
    given_steps heading unit made may told = record {
      tidy = after_tidy (far_end heading pair) (unit_call unit) true made may told;
      others = λ other apart.
          (ap (λ (k : Kept). slice_get k.pairs other) (told_done kept (far_end heading pair) (unit_call unit) made told)
          ∙ given_others (far_end heading pair) (far_is heading) unit told.0 told.3 other apart);
      is = first_gone kept tidy place pair is heading unit made told;
    }

    turned_is : (heading : Heading) (own : Event) (granted : ℕ) → own ≡ events.End (near_end heading pair) (tells.Window granted) → slice_get (noted kept own).pairs place ≡ Some (changed pair (Turns heading))
    turned_is On own granted e = ap (λ (x : Event). slice_get (noted kept x).pairs place) e ∙ at_inbound kept tidy place pair is (Turns On) (Turns Back)
    turned_is Back own granted e = ap (λ (x : Event). slice_get (noted kept x).pairs place) e ∙ at_outbound kept tidy place pair is (Turns On) (Turns Back)

    -- the credit is set, or that is refused
    credit_steps : (heading : Heading) (credit : ℕ) (done : Bool) (made : List Event) → ToldBy (near_end heading pair) (asks.Window credit) done made → (now : Pair) × Keeps pair now × Steps kept place (kept_after kept made) now
    credit_steps heading credit false made told = (pair, keeps_same pair, refused_steps (near_end heading pair) (asks.Window credit) made tt told)
    credit_steps heading credit true made told = (
      changed pair (Turns heading),
      keeps_turned heading pair,
      record {
        tidy = after_tidy (near_end heading pair) (asks.Window credit) true made tt told;
        others = λ other apart.
            (ap (λ (k : Kept). slice_get k.pairs other) (told_done kept (near_end heading pair) (asks.Window credit) made told) ∙ ap (λ (e : Event). slice_get (noted kept e).pairs other) (told.3).1
            ∙ others_changed kept tidy place pair is (near_end heading pair) (Turns On) (Turns Back) (near_is heading) other apart);
        is = ap (λ (k : Kept). slice_get k.pairs place) (told_done kept (near_end heading pair) (asks.Window credit) made told) ∙ turned_is heading told.0 (told.3).0 (told.3).1;
      },
    )

    closed_is : (end : ℕ) → IsEndOf pair end → slice_get (map (outbound_changed end Closes) (map (inbound_changed end Closes) kept.pairs)) place ≡ Some (changed pair Closes)
    closed_is end (inl e) = subst (λ (n : ℕ). slice_get (map (outbound_changed n Closes) (map (inbound_changed n Closes) kept.pairs)) place ≡ Some (changed pair Closes)) (sym e) (at_inbound kept tidy place pair is Closes Closes)
    closed_is end (inr e) = subst (λ (n : ℕ). slice_get (map (outbound_changed n Closes) (map (inbound_changed n Closes) kept.pairs)) place ≡ Some (changed pair Closes)) (sym e) (at_outbound kept tidy place pair is Closes Closes)

    -- an end is disconnected, or that is refused
    close_steps : (end : ℕ) → IsEndOf pair end → (done : Bool) (made : List Event) → ToldBy end (asks.Disconnect []) done made → (now : Pair) × Keeps pair now × Steps kept place (kept_after kept made) now
    close_steps end at false made told = (pair, keeps_same pair, refused_steps end (asks.Disconnect []) made tt told)
    close_steps end at true made told = (
      changed pair Closes,
      keeps_closed pair,
      record {
        tidy = after_tidy end (asks.Disconnect []) true made tt told;
        others = λ other apart.
            (ap (λ (k : Kept). slice_get k.pairs other) (told_done kept end (asks.Disconnect []) made told) ∙ ap (λ (e : Event). slice_get (noted kept e).pairs other) told.3
            ∙ others_changed kept tidy place pair is end Closes Closes at other apart);
        is = ap (λ (k : Kept). slice_get k.pairs place) (told_done kept end (asks.Disconnect []) made told) ∙ ap (λ (e : Event). slice_get (noted kept e).pairs place) told.3 ∙ closed_is end at;
      },
    )

  -- ---- units are submitted

  abbrev Submits-steps : Kept → ℕ → Heading → Pair → List Event → List MarkedUnit → Type 0
  Submits-steps kept place heading pair made left = Steps kept place (kept_after kept made) (with_left heading left pair)

  -- where units are left, the call for the first of them was refused
  submits_left : (units : List MarkedUnit) (old : S) (end : ℕ) (done : Bool) (made : List Event) (new : S) (left : List MarkedUnit) → (s : Submits connects calls old end units done made new left)
      → (left ≡ []) ⊎ SubmitRefuses connects calls old end units done made new left s end left
  submits_left [] old end done made new left s = inl s.3
  submits_left (unit ∷ units) old end done made new left (inl s) = inr (refl, s.2)
  submits_left (unit ∷ units) old end done made new left (inr s) = submits_left units s.0 end s.1 s.3 new left s.5

  with_phase : (heading : Heading) (units : List MarkedUnit) (pair : Pair) → (with_left heading units pair).phase ≡ pair.phase
  with_phase On units pair = refl
  with_phase Back units pair = refl

  submits_leave : (heading : Heading) (place : ℕ) (pair : Pair) → pair.phase ≡ phases.Open → (units : List MarkedUnit) (kept : Kept) (old new : S) (done : Bool) (made : List Event) (left : List MarkedUnit)
      → IsTidy kept → slice_get kept.pairs place ≡ Some (with_left heading units pair) → Submits connects calls old (far_end heading pair) units done made new left → Submits-steps kept place heading pair made left
  submits_leave heading place pair opens [] kept old new done made left tidy is s =
      subst (λ (es : List Event). Steps kept place (kept_after kept es) (with_left heading left pair)) (sym s.1)
      (record { tidy = tidy; others = λ other apart. refl; is = is ∙ ap (λ (us : List MarkedUnit). Some (with_left heading us pair)) (sym s.3) })
  submits_leave heading place pair opens (unit ∷ units) kept old new done made left tidy is (inl s) =
      let here : Pair = with_left heading (unit ∷ units) pair in
      let told : ToldBy (far_end heading here) (unit_call unit) false made =
      subst (λ (n : ℕ). ToldBy n (unit_call unit) false made) (sym (left_far heading (unit ∷ units) pair)) (law.told old (far_end heading pair) (unit_call unit) false made new s.0) in
      let may = may_submit kept tidy place here is unit units (with_phase heading (unit ∷ units) pair ∙ opens) heading (left_waiting heading (unit ∷ units) pair) in
      subst (λ (us : List MarkedUnit). Steps kept place (kept_after kept made) (with_left heading us pair)) (sym s.2) (refused_steps kept tidy place here is (far_end heading here) (unit_call unit) made may told)
  submits_leave heading place pair opens (unit ∷ units) kept old new done made left tidy is (inr s) =
      let here : Pair = with_left heading (unit ∷ units) pair in
      let told : ToldBy (far_end heading here) (unit_call unit) true s.2 =
      subst (λ (n : ℕ). ToldBy n (unit_call unit) true s.2) (sym (left_far heading (unit ∷ units) pair)) (law.told old (far_end heading pair) (unit_call unit) true s.2 s.0 s.4) in
      let may = may_submit kept tidy place here is unit units (with_phase heading (unit ∷ units) pair ∙ opens) heading (left_waiting heading (unit ∷ units) pair) in
      let first = given_steps kept tidy place here is heading unit s.2 may told in
      let at : slice_get (kept_after kept s.2).pairs place ≡ Some (with_left heading units pair) = first.is ∙ ap (λ (p : Pair). Some p) (left_first heading unit units pair) in
      let rest = submits_leave heading place pair opens units (kept_after kept s.2) s.0 new s.1 s.3 left first.tidy at s.5 in
      subst (λ (es : List Event). Steps kept place (kept_after kept es) (with_left heading left pair)) (sym s.7)
      (steps_at kept (kept_after (kept_after kept s.2) s.3) (kept_after kept (s.2 ++ s.3)) place (with_left heading left pair) (sym (kept_more kept s.2 s.3))
      (steps_more kept (kept_after kept s.2) (kept_after (kept_after kept s.2) s.3) place (changed here (Gives heading)) (with_left heading left pair) first rest))

  -- ---- the credit is set, or the pair parts

  pub record Kept-pair (kept : Kept) (place : ℕ) (pair : Pair) (made : List Event) : Type 0 where
    pub now : Pair
    pub keeps : Keeps pair now
    pub steps : Steps kept place (kept_after kept made) now

  nothing_made : (kept : Kept) (place : ℕ) (pair : Pair) (made : List Event) → IsTidy kept → slice_get kept.pairs place ≡ Some pair → made ≡ [] → Kept-pair kept place pair made
  nothing_made kept place pair made tidy is none = record {
    now = pair;
    keeps = keeps_same pair;
    steps = subst (λ (es : List Event). Steps kept place (kept_after kept es) pair) (sym none) (record { tidy = tidy; others = λ other apart. refl; is = is });
  }

  -- two such steps
  both_kept : (kept : Kept) (place : ℕ) (pair : Pair) (here rest made : List Event) (a : Kept-pair kept place pair here) → Kept-pair (kept_after kept here) place a.now rest → made ≡ here ++ rest → Kept-pair kept place pair made
  both_kept kept place pair here rest made a b is = record {
    now = b.now;
    keeps = keeps_more pair a.now b.now a.keeps b.keeps;
    steps = subst (λ (es : List Event). Steps kept place (kept_after kept es) b.now) (sym is)
        (steps_at kept (kept_after (kept_after kept here) rest) (kept_after kept (here ++ rest)) place b.now (sym (kept_more kept here rest))
        (steps_more kept (kept_after kept here) (kept_after (kept_after kept here) rest) place a.now b.now a.steps b.steps));
  }

  parts_keep : (kept : Kept) (place : ℕ) (pair : Pair) (old new : S) (done : Bool) (made : List Event) → IsTidy kept → slice_get kept.pairs place ≡ Some pair → Parts connects calls old pair done made new → Kept-pair kept place pair made
  parts_keep kept place pair old new done made tidy is p =
      let a = close_steps kept tidy place pair is pair.inbound (inl refl) p.1 p.3 (law.told old pair.inbound (asks.Disconnect []) p.1 p.3 p.0 p.5) in
      let one : Kept-pair kept place pair p.3 = record { now = a.0; keeps = a.1; steps = a.2 } in
      let b = close_steps (kept_after kept p.3) (a.2).tidy place a.0 (a.2).is pair.outbound (inr (sym (a.1).outbound)) p.2 p.4 (law.told p.0 pair.outbound (asks.Disconnect []) p.2 p.4 new p.6) in
      both_kept kept place pair p.3 p.4 made one (record { now = b.0; keeps = b.1; steps = b.2 }) p.8

  credit_keeps : (kept : Kept) (place : ℕ) (heading : Heading) (pair : Pair) (old new : S) (credit : Option ℕ) (done : Bool) (made : List Event) → IsTidy kept → slice_get kept.pairs place ≡ Some pair
      → SetsCredit connects calls old (near_end heading pair) credit done made new → Kept-pair kept place pair made
  credit_keeps kept place heading pair old new None done made tidy is s = nothing_made kept place pair made tidy is s.1
  credit_keeps kept place heading pair old new (Some credit) done made tidy is s =
      let a = credit_steps kept tidy place pair is heading credit done made (law.told old (near_end heading pair) (asks.Window credit) done made new s) in
      record { now = a.0; keeps = a.1; steps = a.2 }

  balances_keep : (rules : Timers) (heading : Heading) (pair : Pair) (left : List MarkedUnit) (many : Bool) (kept : Kept) (place : ℕ) (old new : S) (done : Bool) (made : List Event) → IsTidy kept
      → slice_get kept.pairs place ≡ Some (with_left heading left pair) → BalancesBy connects calls many old rules heading pair left done made new → Kept-pair kept place (with_left heading left pair) made
  balances_keep rules On pair left true kept place old new done made tidy is b = parts_keep kept place (with_left On left pair) old new done made tidy is b
  balances_keep rules Back pair left true kept place old new done made tidy is b = parts_keep kept place (with_left Back left pair) old new done made tidy is b
  balances_keep rules On pair left false kept place old new done made tidy is b = credit_keeps kept place On (with_left On left pair) old new (credit_now rules.credit pair.on.lowered left) done made tidy is b
  balances_keep rules Back pair left false kept place old new done made tidy is b = credit_keeps kept place Back (with_left Back left pair) old new (credit_now rules.credit pair.back.lowered left) done made tidy is b

  -- ---- one way

  abbrev other_way : Heading → Heading
  other_way On = Back
  other_way Back = On

  -- nothing is left to go, or it is that of which the next was refused
  abbrev NoneLeft : (List MarkedUnit → Type 0) → List MarkedUnit → Type 0
  NoneLeft Refused units = (units ≡ []) ⊎ Refused units

  pub record Way-left (kept : Kept) (place : ℕ) (heading : Heading) (pair : Pair) (made : List Event) (Refused : ℕ → List MarkedUnit → Type 0) : Type 0 where
    pub now : Pair
    pub inbound : now.inbound ≡ pair.inbound
    pub outbound : now.outbound ≡ pair.outbound
    pub opens : now.phase ≡ phases.Open → pair.phase ≡ phases.Open
    pub other : now.phase ≡ phases.Open → (way_of (other_way heading) now).waiting ≡ (way_of (other_way heading) pair).waiting
    pub leaves : now.phase ≡ phases.Open → NoneLeft (Refused (far_end heading pair)) (way_of heading now).waiting
    pub steps : Steps kept place (kept_after kept made) now

  left_inbound : (heading : Heading) (left : List MarkedUnit) (pair : Pair) → (with_left heading left pair).inbound ≡ pair.inbound
  left_inbound On left pair = refl
  left_inbound Back left pair = refl

  left_outbound : (heading : Heading) (left : List MarkedUnit) (pair : Pair) → (with_left heading left pair).outbound ≡ pair.outbound
  left_outbound On left pair = refl
  left_outbound Back left pair = refl

  other_kept : (heading : Heading) (left : List MarkedUnit) (pair now : Pair) → Keeps (with_left heading left pair) now → now.phase ≡ phases.Open → (way_of (other_way heading) now).waiting ≡ (way_of (other_way heading) pair).waiting
  other_kept On left pair now k h = k.back h
  other_kept Back left pair now k h = k.on h

  same_kept : (heading : Heading) (left : List MarkedUnit) (pair now : Pair) → Keeps (with_left heading left pair) now → now.phase ≡ phases.Open → left ≡ (way_of heading now).waiting
  same_kept On left pair now k h = sym (k.on h)
  same_kept Back left pair now k h = sym (k.back h)

  way_leaves : (heading : Heading) (kept : Kept) (place : ℕ) (pair : Pair) (old new : S) (done : Bool) (made : List Event) → IsTidy kept → slice_get kept.pairs place ≡ Some pair → pair.phase ≡ phases.Open
      → (w : ServesWay connects calls old kept.rules heading pair done made new) → Way-left kept place heading pair made (OpenRefuses connects calls true old kept.rules heading pair done made new w)
  way_leaves heading kept place pair old new done made tidy is opens w =
      let s = submits_leave heading place pair opens (way_of heading pair).waiting kept old w.mid w.one w.here w.left tidy (is ∙ ap (λ (p : Pair). Some p) (sym (left_all heading pair))) w.submits in
      let b = balances_keep kept.rules heading pair w.left (nat_lt 300 (length w.left)) (kept_after kept w.here) place w.mid new w.other w.rest s.tidy s.is w.balances in
      record {
        now = b.now;
        inbound = (b.keeps).inbound ∙ left_inbound heading w.left pair;
        outbound = (b.keeps).outbound ∙ left_outbound heading w.left pair;
        opens = λ h. opens;
        other = λ h. other_kept heading w.left pair b.now b.keeps h;
        leaves = λ h. subst (NoneLeft (OpenRefuses connects calls true old kept.rules heading pair done made new w (far_end heading pair))) (same_kept heading w.left pair b.now b.keeps h)
            (submits_left (way_of heading pair).waiting old (far_end heading pair) w.one w.here w.mid w.left w.submits);
        steps = subst (λ (es : List Event). Steps kept place (kept_after kept es) b.now) (sym w.made_is)
            (steps_at kept (kept_after (kept_after kept w.here) w.rest) (kept_after kept (w.here ++ w.rest)) place b.now (sym (kept_more kept w.here w.rest))
            (steps_more kept (kept_after kept w.here) (kept_after (kept_after kept w.here) w.rest) place (with_left heading w.left pair) b.now s b.steps));
      }

  not_open : (phase : Phase) → is_open phase ≡ false → phase ≡ phases.Open → ⊥
  not_open phases.Begun shut same = absurd (cc)
  not_open phases.Open shut same = absurd (cc)
  not_open phases.Closed shut same = absurd (cc)

  open_is : (phase : Phase) → is_open phase ≡ true → phase ≡ phases.Open
  open_is phases.Begun yes_it = absurd (cc)
  open_is phases.Open yes_it = refl
  open_is phases.Closed yes_it = absurd (cc)

  at_leaves : (heading : Heading) (kept : Kept) (place : ℕ) (pair : Pair) (old new : S) (done : Bool) (made : List Event) → IsTidy kept → slice_get kept.pairs place ≡ Some pair
      → (w : ServesAt connects calls old kept place heading done made new) → Way-left kept place heading pair made (IfRefuses connects calls (slice_get kept.pairs place) old kept.rules heading done made new w)
  at_leaves heading kept place pair old new done made tidy is w = by (slice_get kept.pairs place) refl is w
    where
      by_open : (p : Pair) → slice_get kept.pairs place ≡ Some p → (b : Bool) → is_open p.phase ≡ b → (s : ServesOpen connects calls b old kept.rules heading p done made new)
          → Way-left kept place heading p made (OpenRefuses connects calls b old kept.rules heading p done made new s)
      by_open p there true opens s = way_leaves heading kept place p old new done made tidy there (open_is p.phase opens) s
      by_open p there false shut s = record {
        now = p;
        inbound = refl;
        outbound = refl;
        opens = λ h. h;
        other = λ h. refl;
        leaves = λ h. absurd (not_open p.phase shut h);
        steps = subst (λ (es : List Event). Steps kept place (kept_after kept es) p) (sym s.1) (record { tidy = tidy; others = λ other apart. refl; is = there });
      }

      by : (found : Option Pair) → slice_get kept.pairs place ≡ found → found ≡ Some pair → (s : ServesIf connects calls old kept.rules heading found done made new)
          → Way-left kept place heading pair made (IfRefuses connects calls found old kept.rules heading done made new s)
      by None there same s = absurd (cc same)
      by (Some p) there same s =
          let equal : p ≡ pair = cc same in
          subst (λ (x : Pair). Way-left kept place heading x made (IfRefuses connects calls (Some p) old kept.rules heading done made new s)) equal (by_open p there (is_open p.phase) refl s)

  -- ---- both ways

  -- so it is both ways
  abbrev BothLeft : (Heading → ℕ → List MarkedUnit → Type 0) → Pair → Type 0
  BothLeft Refused pair = pair.phase ≡ phases.Open → NoneLeft (Refused On pair.outbound) pair.on.waiting × NoneLeft (Refused Back pair.inbound) pair.back.waiting

  pub record Pair-left (kept : Kept) (place : ℕ) (made : List Event) (Refused : Heading → ℕ → List MarkedUnit → Type 0) : Type 0 where
    pub now : Pair
    pub left : BothLeft Refused now
    pub steps : Steps kept place (kept_after kept made) now

  pair_leaves : (kept : Kept) (place : ℕ) (pair : Pair) (old new : S) (done : Bool) (made : List Event) → IsTidy kept → slice_get kept.pairs place ≡ Some pair → (s : ServesPair connects calls old kept place done made new)
      → Pair-left kept place made (PairRefuses connects calls old kept place done made new s)
  pair_leaves kept place pair old new done made tidy is s =
      let a = at_leaves On kept place pair old s.mid s.one s.here tidy is s.on in
      let b = at_leaves Back (kept_after kept s.here) place a.now s.mid new s.other s.rest (a.steps).tidy (a.steps).is s.back in
      record {
        now = b.now;
        left = λ h. (
          subst (λ (end : ℕ). NoneLeft (PairRefuses connects calls old kept place done made new s On end) (b.now).on.waiting) (sym (b.outbound ∙ a.outbound))
              (subst (NoneLeft (PairRefuses connects calls old kept place done made new s On pair.outbound)) (sym (b.other h)) (a.leaves (b.opens h))),
          subst (λ (end : ℕ). NoneLeft (PairRefuses connects calls old kept place done made new s Back end) (b.now).back.waiting) (sym b.inbound) (b.leaves h),
        );
        steps = subst (λ (es : List Event). Steps kept place (kept_after kept es) b.now) (sym s.made_is)
            (steps_at kept (kept_after (kept_after kept s.here) s.rest) (kept_after kept (s.here ++ s.rest)) place b.now (sym (kept_more kept s.here s.rest))
            (steps_more kept (kept_after kept s.here) (kept_after (kept_after kept s.here) s.rest) place a.now b.now a.steps b.steps));
      }

  -- ---- each open pair

  abbrev IsAmong : List ℕ → ℕ → Type 0
  IsAmong [] place = ⊥
  IsAmong (first ∷ places) place = (first ≡ place) ⊎ IsAmong places place

  -- it was refused by the one or the other
  abbrev Either : (ℕ → Heading → ℕ → List MarkedUnit → Type 0) → (ℕ → Heading → ℕ → List MarkedUnit → Type 0) → ℕ → Heading → ℕ → List MarkedUnit → Type 0
  Either Before Here place heading end units = Before place heading end units ⊎ Here place heading end units

  -- each open pair is still to be served, or what waits is that of which the next was refused
  abbrev Awaits : Kept → List ℕ → (ℕ → Heading → ℕ → List MarkedUnit → Type 0) → Type 0
  Awaits kept places Before = (place : ℕ) (pair : Pair) → slice_get kept.pairs place ≡ Some pair → IsAmong places place ⊎ BothLeft (Before place) pair

  none_more : (Refused More : List MarkedUnit → Type 0) (units : List MarkedUnit) → (Refused units → More units) → NoneLeft Refused units → NoneLeft More units
  none_more Refused More units more (inl none) = inl none
  none_more Refused More units more (inr refused) = inr (more refused)

  both_more : (Refused More : Heading → ℕ → List MarkedUnit → Type 0) (pair : Pair) → ((heading : Heading) (end : ℕ) (units : List MarkedUnit) → Refused heading end units → More heading end units) → BothLeft Refused pair
      → BothLeft More pair
  both_more Refused More pair more both h =
      let b = both h in (
        none_more (Refused On pair.outbound) (More On pair.outbound) pair.on.waiting (more On pair.outbound pair.on.waiting) b.0,
        none_more (Refused Back pair.inbound) (More Back pair.inbound) pair.back.waiting (more Back pair.inbound pair.back.waiting) b.1,
      )

  module _ (kept : Kept) (first : ℕ) (places : List ℕ) (here : List Event) (Before Here : ℕ → Heading → ℕ → List MarkedUnit → Type 0) (Left : Heading → ℕ → List MarkedUnit → Type 0)
      (is : (heading : Heading) (end : ℕ) (units : List MarkedUnit) → Left heading end units → Here first heading end units) (p : Pair-left kept first here Left) where
    among_other : (at : ℕ) (other : Pair) → at ≢ first → ((first ≡ at) ⊎ IsAmong places at) ⊎ BothLeft (Before at) other → IsAmong places at ⊎ BothLeft (Either Before Here at) other
    among_other at other apart (inl (inl same)) = absurd (apart (sym same))
    among_other at other apart (inl (inr among)) = inl among
    among_other at other apart (inr left) = inr (both_more (Before at) (Either Before Here at) other (λ heading end units l. inl l) left)

    await_rest : Awaits kept (first ∷ places) Before → Awaits (kept_after kept here) places (Either Before Here)
    await_rest awaits at other found = elim (cases_lt at first) [
      | inl less ↦ among_other at other (λ same. omega (arith, less, same)) (awaits at other (sym ((p.steps).others at (λ same. omega (arith, less, same))) ∙ found))
      | inr more ↦ elim (cases_lt first at) [
        | inl less ↦ among_other at other (λ same. omega (arith, less, same)) (awaits at other (sym ((p.steps).others at (λ same. omega (arith, less, same))) ∙ found))
        | inr most ↦ inr (now_at (omega (arith, more, most)))
      ]
    ]
      where
        now_at : at ≡ first → BothLeft (Either Before Here at) other
        now_at same =
            let e : Some p.now ≡ Some other = sym (p.steps).is ∙ ap (λ (n : ℕ). slice_get (kept_after kept here).pairs n) (sym same) ∙ found in
            let this : p.now ≡ other = cc e in
            subst (λ (n : ℕ). BothLeft (Either Before Here n) other) (sym same) (subst (BothLeft (Either Before Here first)) this (both_more Left (Either Before Here first) p.now (λ heading end units l. inr (is heading end units l)) p.left))

  -- refused as the first pair is served, or the others
  reordered : (Before Here Rest : ℕ → Heading → ℕ → List MarkedUnit → Type 0) (place : ℕ) (heading : Heading) (end : ℕ) (units : List MarkedUnit) → Either (Either Before Here) Rest place heading end units
      → Either Before (Either Here Rest) place heading end units
  reordered Before Here Rest place heading end units (inl (inl before)) = inl before
  reordered Before Here Rest place heading end units (inl (inr here)) = inr (inl here)
  reordered Before Here Rest place heading end units (inr rest) = inr (inr rest)

  each_leaves : (places : List ℕ) (kept : Kept) (old new : S) (done : Bool) (made : List Event) (last : Kept) (Before : ℕ → Heading → ℕ → List MarkedUnit → Type 0) → IsTidy kept → AllByRecursion (λ (place : ℕ). place < length kept.pairs) places
      → Awaits kept places Before → (s : ServesEach connects calls old kept places done made new last) → (place : ℕ) (pair : Pair) → slice_get last.pairs place ≡ Some pair
      → BothLeft (Either Before (EachRefuses connects calls places old kept done made new last s) place) pair
  each_leaves [] kept old new done made last Before tidy bounds awaits s place pair there =
      let found : slice_get kept.pairs place ≡ Some pair = ap (λ (k : Kept). slice_get k.pairs place) (sym s.3) ∙ there in
      both_more (Before place) (Either Before (EachRefuses connects calls [] old kept done made new last s) place) pair (λ heading end units l. inl l) (none (awaits place pair found))
    where
      none : ⊥ ⊎ BothLeft (Before place) pair → BothLeft (Before place) pair
      none (inl never) = absurd never
      none (inr left) = left
  each_leaves (first ∷ places) kept old new done made last Before tidy bounds awaits s place pair there =
      let default : Pair = pair in
      let here : Pair = get_or kept.pairs first default in
      let is : slice_get kept.pairs first ≡ Some here = slice_get-get_or kept.pairs first default bounds.0 in
      let p = pair_leaves kept first here old s.0 s.1 s.3 tidy is s.5 in
      let middle : Kept = kept_after kept s.3 in
      let later : AllByRecursion (λ (x : ℕ). x < length middle.pairs) places =
      all_weaker (λ (x : ℕ). x < length kept.pairs) (λ (x : ℕ). x < length middle.pairs) places (λ x low. (let g = pairs_grow kept s.3 in omega (arith, low, g))) bounds.1 in
      let Here : ℕ → Heading → ℕ → List MarkedUnit → Type 0 = λ at heading end units. (first ≡ at) × PairRefuses connects calls old kept first s.1 s.3 s.0 s.5 heading end units in
      let Rest : ℕ → Heading → ℕ → List MarkedUnit → Type 0 = EachRefuses connects calls places s.0 middle s.2 s.4 new last s.6 in
      both_more (Either (Either Before Here) Rest place) (Either Before (Either Here Rest) place) pair (reordered Before Here Rest place)
      (each_leaves places middle s.0 new s.2 s.4 last (Either Before Here) (p.steps).tidy later
      (await_rest kept first places s.3 Before Here (PairRefuses connects calls old kept first s.1 s.3 s.0 s.5) (λ heading end units l. (refl, l)) p awaits)
      s.6 place pair there)

  -- ---- the whole

  among_places : (n : ℕ) (pairs : List Pair) (k : ℕ) (pair : Pair) → slice_get pairs k ≡ Some pair → is_open pair.phase ≡ true → IsAmong (places_from n pairs) (n + k)
  among_places n [] k pair there opens = absurd (cc)
  among_places n (first ∷ pairs) zero pair there opens =
      let same : first ≡ pair = cc in
      let n_is : n ≡ n + 0 = omega arith in
      subst (λ (b : Bool). IsAmong (if b then n ∷ places_from (suc n) pairs else places_from (suc n) pairs) (n + 0)) (sym (ap (λ (p : Pair). is_open p.phase) same ∙ opens)) (inl n_is)
  among_places n (first ∷ pairs) (suc k) pair there opens =
      let next : suc n + k ≡ n + suc k = omega arith in
      by (subst (IsAmong (places_from (suc n) pairs)) next (among_places (suc n) pairs k pair there opens)) (is_open first.phase)
    where
      by : IsAmong (places_from (suc n) pairs) (n + suc k) → (b : Bool) → IsAmong (if b then n ∷ places_from (suc n) pairs else places_from (suc n) pairs) (n + suc k)
      by among true = inr among
      by among false = among

  abbrev Never : ℕ → Heading → ℕ → List MarkedUnit → Type 0
  Never place heading end units = ⊥

  await_all : (kept : Kept) → Awaits kept (open_places kept.pairs) Never
  await_all kept place pair there = by (is_open pair.phase) refl
    where
      by : (b : Bool) → is_open pair.phase ≡ b → IsAmong (open_places kept.pairs) place ⊎ BothLeft (Never place) pair
      by true opens = let e : 0 + place ≡ place = omega arith in inl (subst (IsAmong (open_places kept.pairs)) e (among_places 0 kept.pairs place pair there opens))
      by false shut = inr (λ h. absurd (not_open pair.phase shut h))

  places_low : (kept : Kept) → AllByRecursion (λ (place : ℕ). place < length kept.pairs) (open_places kept.pairs)
  places_low kept = recursion_from_All (λ (place : ℕ). place < length kept.pairs) (open_places kept.pairs)
      (λ k d low. (let e = get_or_default_zero (open_places kept.pairs) k d low in let b = open_bound kept.pairs k low in omega (arith, e, b)))

  module _ (old : S) (kept : Kept) (line : List Event) (done : Bool) (made : List Event) (new : S) (last : Kept) (step : PumpStep connects calls old kept line done made new last) where
    abbrev RefusedIn : ℕ → Heading → ℕ → List MarkedUnit → Type 0
    RefusedIn = EachRefuses connects calls (open_places (step.middle).pairs) step.mid step.middle step.other step.rest new last step.serves

    one_of : (place : ℕ) (heading : Heading) (end : ℕ) (waiting : List MarkedUnit) → Either Never RefusedIn place heading end waiting → RefusedIn place heading end waiting
    one_of place heading end waiting (inl never) = absurd never
    one_of place heading end waiting (inr refused) = refused

    pub pump_leaves : IsTidy step.middle → AreServed connects calls old kept line done made new last step
    pump_leaves tidy place pair there =
        both_more (Either Never RefusedIn place) (RefusedIn place) pair (one_of place)
        (each_leaves (open_places (step.middle).pairs) step.middle step.mid new step.other step.rest last Never tidy (places_low step.middle) (await_all step.middle) step.serves place pair there)

-- ---- units

-- what was shown at an open pair and not submitted waits
pub all_but_waiting : (journal : List Event) (pairs : List Pair) → AllByRecursion (PairHolds journal) pairs → AllByRecursion (AllButWaiting journal) pairs
all_but_waiting journal [] holds = tt
all_but_waiting journal (pair ∷ pairs) holds = (λ opens. ((holds.0).on.opened_waits opens, (holds.0).back.opened_waits opens), all_but_waiting journal pairs holds.1)

holds_at : (P : Pair → Type 0) (pairs : List Pair) (n : ℕ) (x : Pair) → AllByRecursion P pairs → slice_get pairs n ≡ Some x → P x
holds_at P [] n x all is = absurd (cc is)
holds_at P (first ∷ pairs) zero x all is = let same : first ≡ x = cc is in subst P same all.0
holds_at P (first ∷ pairs) (suc n) x all is = holds_at P pairs n x all.1 is

module _ {S : Type 0} (connects : S → ℕ → ConnectRequest → Bool → List Event → S → Type 0) (calls : S → ℕ → UserCall → Bool → List Event → S → Type 0) where
  pub all_given : (journal : List Event) (old : S) (kept : Kept) (line : List Event) (done : Bool) (made : List Event) (new : S) (last : Kept) (step : PumpStep connects calls old kept line done made new last)
      → AllByRecursion (PairHolds journal) last.pairs → AreServed connects calls old kept line done made new last step → AreGiven connects calls old kept line done made new last step journal
  all_given journal old kept line done made new last step holds served place pair there h =
      let pair_holds = holds_at (PairHolds journal) last.pairs place pair holds there in
      (on (pair_holds.on.opened_waits h) (served place pair there h).0, back (pair_holds.back.opened_waits h) (served place pair there h).1)
    where
      gave : (given got : List Marked) (waiting : List MarkedUnit) → got ≡ given ++ map marked waiting → waiting ≡ [] → given ≡ got
      gave given got waiting is none = sym (is ∙ ap (λ (us : List MarkedUnit). given ++ map marked us) none ∙ append-nil given)

      on : shown pair.inbound journal ≡ submitted pair.outbound journal ++ map marked pair.on.waiting → LeavesNone connects calls old kept line done made new last step place On pair.outbound pair.on.waiting
          → (submitted pair.outbound journal ≡ shown pair.inbound journal) ⊎ RefusesNext connects calls old kept line done made new last step place On pair.outbound pair.on.waiting
      on is (inl none) = inl (gave (submitted pair.outbound journal) (shown pair.inbound journal) pair.on.waiting is none)
      on is (inr refused) = inr refused

      back : shown pair.outbound journal ≡ submitted pair.inbound journal ++ map marked pair.back.waiting → LeavesNone connects calls old kept line done made new last step place Back pair.inbound pair.back.waiting
          → (submitted pair.inbound journal ≡ shown pair.outbound journal) ⊎ RefusesNext connects calls old kept line done made new last step place Back pair.inbound pair.back.waiting
      back is (inl none) = inl (gave (submitted pair.inbound journal) (shown pair.outbound journal) pair.back.waiting is none)
      back is (inr refused) = inr refused
