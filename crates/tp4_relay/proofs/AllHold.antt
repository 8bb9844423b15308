-- All pairs hold, after each event that may come.
use Rattle.std.proofs.Common.{◌≡◌, inl, inr, ℕ, ◌==◌, Bool, List, [], ◌∷◌, ◌++◌, map, refl, sym, ◌∙◌, ap, subst}
use Rattle.std.specs.Prelude.{if◌then◌else◌}
use Rattle.std.specs.List.{AllByRecursion}
use Rattle.std.proofs.lemmas.Bool.{eq-eqb, ne_eqb}
use Rattle.std.proofs.lemmas.Bool.Decides.{eqb_tells}
use Rattle.script_journal.specs.declared.event.Event.{Event}
use Rattle.script_journal.specs.declared.event.Event.TheVariants as events
use Rattle.script_journal.specs.Lawful.{Marked, shown, submitted}
use Rattle.tp4_relay.specs.declared.pair.Heading.TheVariants.{On, Back}
use Rattle.tp4_relay.specs.declared.pair.Pair.{Pair}
use Rattle.tp4_relay.specs.declared.unit.MarkedUnit.{MarkedUnit}
use Rattle.tp4_relay.specs.declared.unit.MarkedUnit.TheVariants.{Normal, Expedited}
use Rattle.tp4_relay.specs.Allowed.{MayGive, MayShow, marked}
use Rattle.tp4_relay.specs.Pairs.{Change, Opens, Accepts, Closes, Waits, Gives, Turns, inbound_changed, outbound_changed, pairs_after}
use Rattle.tp4_relay.proofs.PairsHold.{PairHolds, accepts_by, aside, both_changes, closes_by, gives_by, if_changed, opens_by, shows_by, turns_by}
use Rattle.tpdu.specs.declared.service.EndTold.TheVariants as tells

pub turned_test : (a b : ℕ) → (a == b) ≡ (b == a)
turned_test a b = elim (eqb_tells a b) [
  | inl same ↦ same.0 ∙ sym (eq-eqb b a (sym same.1))
  | inr other ↦ other.0 ∙ sym (ne_eqb b a (λ is. other.1 (sym is)))
]

abbrev one : Bool → Marked → List Marked
one b unit = if b then unit ∷ [] else []

module _ (journal : List Event) (event : Event) where
  abbrev AllAfter : List Pair → Type 0
  AllAfter pairs = AllByRecursion (PairHolds (journal ++ event ∷ [])) pairs

  -- both changes of each pair
  both : (end : ℕ) (first second : Change) (pairs : List Pair) (May : Pair → Type 0)
      → ((pair : Pair) → PairHolds journal pair → May pair → PairHolds (journal ++ event ∷ []) (if_changed (pair.outbound == end) second (if_changed (pair.inbound == end) first pair)))
      → AllByRecursion (PairHolds journal) pairs → AllByRecursion May pairs → AllAfter (map (outbound_changed end second) (map (inbound_changed end first) pairs))
  both end first second [] May each all may = tt
  both end first second (pair ∷ pairs) May each all may =
      (subst (PairHolds (journal ++ event ∷ [])) (sym (both_changes end first second pair)) (each pair all.0 may.0), both end first second pairs May each all.1 may.1)

  alone : (change : Pair → Pair) (pairs : List Pair) → ((pair : Pair) → PairHolds journal pair → PairHolds (journal ++ event ∷ []) (change pair))
      → AllByRecursion (PairHolds journal) pairs → AllAfter (map change pairs)
  alone change [] each all = tt
  alone change (pair ∷ pairs) each all = (each pair all.0, alone change pairs each all.1)

  as_before : (pairs : List Pair) → ((end : ℕ) → submitted end (event ∷ []) ≡ []) → ((end : ℕ) → shown end (event ∷ []) ≡ []) → AllByRecursion (PairHolds journal) pairs → AllAfter pairs
  as_before [] g s all = tt
  as_before (pair ∷ pairs) g s all = (aside journal pair all.0 event g s, as_before pairs g s all.1)

  nothing : (pairs : List Pair) → AllByRecursion (λ (pair : Pair). Prim.Unit {0}) pairs
  nothing [] = tt
  nothing (pair ∷ pairs) = (tt, nothing pairs)

module _ (journal : List Event) (pairs : List Pair) (all : AllByRecursion (PairHolds journal) pairs) where
  pub shown_holds : (event : Event) (end : ℕ) (unit : MarkedUnit) → ((at : ℕ) → submitted at (event ∷ []) ≡ []) → ((at : ℕ) → shown at (event ∷ []) ≡ one (end == at) (marked unit))
      → AllByRecursion (MayShow end) pairs → AllByRecursion (PairHolds (journal ++ event ∷ [])) (map (outbound_changed end (Waits Back unit)) (map (inbound_changed end (Waits On unit)) pairs))
  shown_holds event end unit g s may =
      both journal event end (Waits On unit) (Waits Back unit) pairs (MayShow end)
      (λ pair h m. shows_by journal pair h event unit g (pair.outbound == end) (pair.inbound == end)
      (s pair.outbound ∙ ap (λ (b : Bool). one b (marked unit)) (turned_test end pair.outbound))
      (s pair.inbound ∙ ap (λ (b : Bool). one b (marked unit)) (turned_test end pair.inbound)) m.1 m.0)
      all may

  pub given_holds : (event : Event) (end : ℕ) (unit : MarkedUnit) → ((at : ℕ) → shown at (event ∷ []) ≡ []) → ((at : ℕ) → submitted at (event ∷ []) ≡ one (end == at) (marked unit))
      → AllByRecursion (MayGive end unit) pairs → AllByRecursion (PairHolds (journal ++ event ∷ [])) (map (outbound_changed end (Gives On)) (map (inbound_changed end (Gives Back)) pairs))
  given_holds event end unit s g may =
      both journal event end (Gives Back) (Gives On) pairs (MayGive end unit)
      (λ pair h m. gives_by journal pair h event unit s (pair.outbound == end) (pair.inbound == end)
      (g pair.outbound ∙ ap (λ (b : Bool). one b (marked unit)) (turned_test end pair.outbound))
      (g pair.inbound ∙ ap (λ (b : Bool). one b (marked unit)) (turned_test end pair.inbound)) m.0 m.1)
      all may

  closed_holds : (event : Event) (end : ℕ) → ((at : ℕ) → submitted at (event ∷ []) ≡ []) → ((at : ℕ) → shown at (event ∷ []) ≡ [])
      → AllByRecursion (PairHolds (journal ++ event ∷ [])) (map (outbound_changed end Closes) (map (inbound_changed end Closes) pairs))
  closed_holds event end g s =
      both journal event end Closes Closes pairs (λ (pair : Pair). Prim.Unit {0}) (λ pair h m. closes_by journal pair h event g s (pair.outbound == end) (pair.inbound == end)) all (nothing journal event pairs)

  turned_holds : (event : Event) (end : ℕ) → ((at : ℕ) → submitted at (event ∷ []) ≡ []) → ((at : ℕ) → shown at (event ∷ []) ≡ [])
      → AllByRecursion (PairHolds (journal ++ event ∷ [])) (map (outbound_changed end (Turns Back)) (map (inbound_changed end (Turns On)) pairs))
  turned_holds event end g s =
      both journal event end (Turns On) (Turns Back) pairs (λ (pair : Pair). Prim.Unit {0}) (λ pair h m. turns_by journal pair h event g s (pair.outbound == end) (pair.inbound == end)) all (nothing journal event pairs)

  -- what of the rules of an event is about pairs
  abbrev pub MayAll : Event → Type 0
  MayAll (events.End end (tells.Got octets)) = AllByRecursion (MayShow end) pairs
  MayAll (events.End end (tells.Urgent octets)) = AllByRecursion (MayShow end) pairs
  MayAll (events.Data end octets) = AllByRecursion (MayGive end (Normal octets)) pairs
  MayAll (events.Expedite end octets) = AllByRecursion (MayGive end (Expedited octets)) pairs
  MayAll event = Prim.Unit {0}

  pub all_after : (event : Event) → MayAll event → AllByRecursion (PairHolds (journal ++ event ∷ [])) (pairs_after pairs event)
  all_after (events.End end (tells.Got octets)) may = shown_holds (events.End end (tells.Got octets)) end (Normal octets) (λ at. refl) (λ at. refl) may
  all_after (events.End end (tells.Urgent octets)) may = shown_holds (events.End end (tells.Urgent octets)) end (Expedited octets) (λ at. refl) (λ at. refl) may
  all_after (events.Data end octets) may = given_holds (events.Data end octets) end (Normal octets) (λ at. refl) (λ at. refl) may
  all_after (events.Expedite end octets) may = given_holds (events.Expedite end octets) end (Expedited octets) (λ at. refl) (λ at. refl) may
  all_after (events.Disconnect end octets) may = closed_holds (events.Disconnect end octets) end (λ at. refl) (λ at. refl)
  all_after (events.End end (tells.Gone cause octets)) may = closed_holds (events.End end (tells.Gone cause octets)) end (λ at. refl) (λ at. refl)
  all_after (events.End end (tells.Window credit)) may = turned_holds (events.End end (tells.Window credit)) end (λ at. refl) (λ at. refl)
  all_after (events.End end (tells.Accept options octets)) may =
      alone journal (events.End end (tells.Accept options octets)) (inbound_changed end Accepts) pairs (λ pair h. accepts_by journal pair h (events.End end (tells.Accept options octets)) (λ at. refl) (λ at. refl) (pair.inbound == end)) all
  all_after (events.End end (tells.Confirm options octets)) may =
      alone journal (events.End end (tells.Confirm options octets)) (outbound_changed end Opens) pairs (λ pair h. opens_by journal pair h (events.End end (tells.Confirm options octets)) (λ at. refl) (λ at. refl) (pair.outbound == end)) all
  all_after event may = as_before journal event pairs (λ at. refl) (λ at. refl) all
