-- Each pair holds, after each event that may come.
use Rattle.std.proofs.Common.{◌≡◌, ◌≢◌, ℕ, ◌==◌, Bool, true, false, List, [], ◌∷◌, ◌++◌, refl, ap}
use Rattle.std.specs.Prelude.{if◌then◌else◌}
use Rattle.script_journal.specs.declared.event.Event.{Event}
use Rattle.script_journal.specs.Lawful.{shown, submitted}
use Rattle.tp4_relay.specs.declared.pair.Heading.TheVariants.{On, Back}
use Rattle.tp4_relay.specs.declared.pair.Pair.{Pair}
use Rattle.tp4_relay.specs.declared.pair.Phase.TheVariants.{Begun}
use Rattle.tp4_relay.specs.declared.unit.MarkedUnit.{MarkedUnit}
use Rattle.tp4_relay.specs.Allowed.{IsFirst, marked}
use Rattle.tp4_relay.specs.Pairs.{Change, Opens, Accepts, Closes, Waits, Gives, Turns, changed, inbound_changed, outbound_changed}
use Rattle.tp4_relay.proofs.Holding.{HoldsWay, quiet, quiet_closes, quiet_opens, given_one, shown_one}

pub record PairHolds (journal : List Event) (pair : Pair) : Type 0 where
  pub on : HoldsWay journal pair.inbound pair.outbound pair.phase pair.on.waiting
  pub back : HoldsWay journal pair.outbound pair.inbound pair.phase pair.back.waiting

pub ends_stay : (pair : Pair) (change : Change) → ((changed pair change).inbound ≡ pair.inbound) × ((changed pair change).outbound ≡ pair.outbound)
ends_stay pair Opens = (refl, refl)
ends_stay pair Accepts = (refl, refl)
ends_stay pair Closes = (refl, refl)
ends_stay pair (Waits On unit) = (refl, refl)
ends_stay pair (Waits Back unit) = (refl, refl)
ends_stay pair (Gives On) = (refl, refl)
ends_stay pair (Gives Back) = (refl, refl)
ends_stay pair (Turns On) = (refl, refl)
ends_stay pair (Turns Back) = (refl, refl)

abbrev pub if_changed : Bool → Change → Pair → Pair
if_changed b change pair = if b then changed pair change else pair

-- both changes, by the tests on the pair as it was
pub both_changes : (end : ℕ) (first second : Change) (pair : Pair)
    → outbound_changed end second (inbound_changed end first pair) ≡ if_changed (pair.outbound == end) second (if_changed (pair.inbound == end) first pair)
both_changes end first second pair = by (pair.inbound == end)
  where
    by : (b : Bool) → (if (if_changed b first pair).outbound == end then changed (if_changed b first pair) second else if_changed b first pair) ≡ if_changed (pair.outbound == end) second (if_changed b first pair)
    by true = ap (λ (n : ℕ). if n == end then changed (changed pair first) second else changed pair first) (ends_stay pair first).1
    by false = refl

module _ (journal : List Event) (pair : Pair) (h : PairHolds journal pair) where
  pub aside : (event : Event) → ((end : ℕ) → submitted end (event ∷ []) ≡ []) → ((end : ℕ) → shown end (event ∷ []) ≡ []) → PairHolds (journal ++ event ∷ []) pair
  aside event g s = record {
    on = quiet journal event pair.inbound pair.outbound pair.phase pair.on.waiting (g pair.outbound) (s pair.inbound) h.on;
    back = quiet journal event pair.outbound pair.inbound pair.phase pair.back.waiting (g pair.inbound) (s pair.outbound) h.back;
  }

  closed : (event : Event) → ((end : ℕ) → submitted end (event ∷ []) ≡ []) → ((end : ℕ) → shown end (event ∷ []) ≡ []) → PairHolds (journal ++ event ∷ []) (changed pair Closes)
  closed event g s = record {
    on = quiet_closes journal event pair.inbound pair.outbound pair.phase pair.on.waiting (g pair.outbound) (s pair.inbound) h.on;
    back = quiet_closes journal event pair.outbound pair.inbound pair.phase pair.back.waiting (g pair.inbound) (s pair.outbound) h.back;
  }

  pub closes_by : (event : Event) → ((end : ℕ) → submitted end (event ∷ []) ≡ []) → ((end : ℕ) → shown end (event ∷ []) ≡ []) → (b c : Bool)
      → PairHolds (journal ++ event ∷ []) (if_changed b Closes (if_changed c Closes pair))
  closes_by event g s true true = let k = closed event g s in record { on = k.on; back = k.back }
  closes_by event g s true false = closed event g s
  closes_by event g s false true = closed event g s
  closes_by event g s false false = aside event g s

  pub opens_by : (event : Event) → ((end : ℕ) → submitted end (event ∷ []) ≡ []) → ((end : ℕ) → shown end (event ∷ []) ≡ []) → (b : Bool) → PairHolds (journal ++ event ∷ []) (if_changed b Opens pair)
  opens_by event g s true = record {
    on = quiet_opens journal event pair.inbound pair.outbound pair.phase pair.on.waiting (g pair.outbound) (s pair.inbound) h.on;
    back = quiet_opens journal event pair.outbound pair.inbound pair.phase pair.back.waiting (g pair.inbound) (s pair.outbound) h.back;
  }
  opens_by event g s false = aside event g s

  pub accepts_by : (event : Event) → ((end : ℕ) → submitted end (event ∷ []) ≡ []) → ((end : ℕ) → shown end (event ∷ []) ≡ []) → (b : Bool) → PairHolds (journal ++ event ∷ []) (if_changed b Accepts pair)
  accepts_by event g s true = let k = aside event g s in record { on = k.on; back = k.back }
  accepts_by event g s false = aside event g s

  pub turns_by : (event : Event) → ((end : ℕ) → submitted end (event ∷ []) ≡ []) → ((end : ℕ) → shown end (event ∷ []) ≡ []) → (b c : Bool)
      → PairHolds (journal ++ event ∷ []) (if_changed b (Turns Back) (if_changed c (Turns On) pair))
  turns_by event g s true true = let k = aside event g s in record { on = k.on; back = k.back }
  turns_by event g s true false = let k = aside event g s in record { on = k.on; back = k.back }
  turns_by event g s false true = let k = aside event g s in record { on = k.on; back = k.back }
  turns_by event g s false false = aside event g s

  -- a unit is shown at an end
  pub shows_by : (event : Event) (unit : MarkedUnit) → ((end : ℕ) → submitted end (event ∷ []) ≡ []) → (b c : Bool)
      → shown pair.outbound (event ∷ []) ≡ (if b then marked unit ∷ [] else []) → shown pair.inbound (event ∷ []) ≡ (if c then marked unit ∷ [] else [])
      → (b ≡ true → pair.phase ≢ Begun) → (c ≡ true → pair.phase ≢ Begun)
      → PairHolds (journal ++ event ∷ []) (if_changed b (Waits Back unit) (if_changed c (Waits On unit) pair))
  shows_by event unit g true true sb sc mb mc = record {
    on = shown_one journal event pair.inbound pair.outbound pair.phase pair.on.waiting unit (g pair.outbound) sc (mc refl) h.on;
    back = shown_one journal event pair.outbound pair.inbound pair.phase pair.back.waiting unit (g pair.inbound) sb (mb refl) h.back;
  }
  shows_by event unit g true false sb sc mb mc = record {
    on = quiet journal event pair.inbound pair.outbound pair.phase pair.on.waiting (g pair.outbound) sc h.on;
    back = shown_one journal event pair.outbound pair.inbound pair.phase pair.back.waiting unit (g pair.inbound) sb (mb refl) h.back;
  }
  shows_by event unit g false true sb sc mb mc = record {
    on = shown_one journal event pair.inbound pair.outbound pair.phase pair.on.waiting unit (g pair.outbound) sc (mc refl) h.on;
    back = quiet journal event pair.outbound pair.inbound pair.phase pair.back.waiting (g pair.inbound) sb h.back;
  }
  shows_by event unit g false false sb sc mb mc = record {
    on = quiet journal event pair.inbound pair.outbound pair.phase pair.on.waiting (g pair.outbound) sc h.on;
    back = quiet journal event pair.outbound pair.inbound pair.phase pair.back.waiting (g pair.inbound) sb h.back;
  }

  -- a unit is submitted at an end
  pub gives_by : (event : Event) (unit : MarkedUnit) → ((end : ℕ) → shown end (event ∷ []) ≡ []) → (b c : Bool)
      → submitted pair.outbound (event ∷ []) ≡ (if b then marked unit ∷ [] else []) → submitted pair.inbound (event ∷ []) ≡ (if c then marked unit ∷ [] else [])
      → (b ≡ true → IsFirst pair.phase pair.on.waiting unit) → (c ≡ true → IsFirst pair.phase pair.back.waiting unit)
      → PairHolds (journal ++ event ∷ []) (if_changed b (Gives On) (if_changed c (Gives Back) pair))
  gives_by event unit s true true gb gc mb mc = record {
    on = given_one journal event pair.inbound pair.outbound pair.phase pair.on.waiting unit gb (s pair.inbound) (mb refl) h.on;
    back = given_one journal event pair.outbound pair.inbound pair.phase pair.back.waiting unit gc (s pair.outbound) (mc refl) h.back;
  }
  gives_by event unit s true false gb gc mb mc = record {
    on = given_one journal event pair.inbound pair.outbound pair.phase pair.on.waiting unit gb (s pair.inbound) (mb refl) h.on;
    back = quiet journal event pair.outbound pair.inbound pair.phase pair.back.waiting gc (s pair.outbound) h.back;
  }
  gives_by event unit s false true gb gc mb mc = record {
    on = quiet journal event pair.inbound pair.outbound pair.phase pair.on.waiting gb (s pair.inbound) h.on;
    back = given_one journal event pair.outbound pair.inbound pair.phase pair.back.waiting unit gc (s pair.outbound) (mc refl) h.back;
  }
  gives_by event unit s false false gb gc mb mc = record {
    on = quiet journal event pair.inbound pair.outbound pair.phase pair.on.waiting gb (s pair.inbound) h.on;
    back = quiet journal event pair.outbound pair.inbound pair.phase pair.back.waiting gc (s pair.outbound) h.back;
  }
