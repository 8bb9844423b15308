-- What holds of one way of a pair at each moment: what was submitted at its one end is a front of what was shown at the other, and what is left of that waits
-- as long as the pair is open.
use Rattle.std.proofs.Common.{◌≡◌, ◌≢◌, ℕ, ◌==◌, Bool, true, false, List, [], ◌∷◌, ◌++◌, map, drop, refl, sym, ◌∙◌, ap, subst, append_assoc}
use Rattle.std.specs.Prelude.{if◌then◌else◌}
use Rattle.std.proofs.lemmas.List.{append-nil}
use Rattle.script_journal.specs.declared.event.Event.{Event}
use Rattle.script_journal.specs.declared.event.Event.TheVariants as events
use Rattle.script_journal.specs.Lawful.{Marked, Normal, Expedited, shown, submitted}
use Rattle.tp4_relay.specs.declared.pair.Phase.{Phase}
use Rattle.tp4_relay.specs.declared.pair.Phase.TheVariants.{Begun, Open, Closed}
use Rattle.tp4_relay.specs.declared.unit.MarkedUnit.{MarkedUnit}
use Rattle.tp4_relay.specs.Allowed.{IsFirst, marked}
use Rattle.tp4_relay.specs.Pairs.{kept, opened}
use Rattle.tp4_relay.specs.Relaying.{IsMarkedFront}
use Rattle.tpdu.specs.declared.service.EndTold.TheVariants as tells

pub record Holds (given got : List Marked) (phase : Phase) (waiting : List Marked) : Type 0 where
  pub front : IsMarkedFront given got
  pub opened_waits : phase ≡ Open → got ≡ given ++ waiting
  pub begun : phase ≡ Begun → (given ≡ []) × (got ≡ [])
  pub begun_waits : phase ≡ Begun → waiting ≡ []

-- of the way from the one end to the other
abbrev pub HoldsWay : List Event → ℕ → ℕ → Phase → List MarkedUnit → Type 0
HoldsWay journal from to phase units = Holds (submitted to journal) (shown from journal) phase (map marked units)

-- ---- lists

opens : (given got : List Marked) (phase : Phase) (waiting : List Marked) → Holds given got phase waiting → Holds given got (opened phase) waiting
opens given got Begun waiting h =
    let b = h.begun refl in
    let w = h.begun_waits refl in
    record { front = h.front; opened_waits = λ is. (b.1 ∙ sym (ap (λ (us : List Marked). us ++ waiting) b.0 ∙ w)); begun = λ is. absurd (cc); begun_waits = λ is. absurd (cc) }
opens given got Open waiting h = h
opens given got Closed waiting h = h

closes : (given got : List Marked) (phase : Phase) (waiting : List Marked) → Holds given got phase waiting → Holds given got Closed []
closes given got phase waiting h = record { front = h.front; opened_waits = λ is. absurd (cc); begun = λ is. absurd (cc); begun_waits = λ is. absurd (cc) }

map_more : (units : List MarkedUnit) (unit : MarkedUnit) → map marked (units ++ unit ∷ []) ≡ map marked units ++ marked unit ∷ []
map_more [] unit = refl
map_more (first ∷ units) unit = ap (λ (us : List Marked). marked first ∷ us) (map_more units unit)

shows : (given got : List Marked) (phase : Phase) (units : List MarkedUnit) (unit : MarkedUnit) → phase ≢ Begun → Holds given got phase (map marked units)
    → Holds given (got ++ marked unit ∷ []) phase (map marked (kept phase units unit))
shows given got Begun units unit some h = absurd (some refl)
shows given got Open units unit some h =
    let waiting : List Marked = map marked units in
    let all : got ++ marked unit ∷ [] ≡ given ++ (waiting ++ marked unit ∷ []) = ap (λ (us : List Marked). us ++ marked unit ∷ []) (h.opened_waits refl) ∙ append_assoc given waiting (marked unit ∷ []) in
    let more : got ++ marked unit ∷ [] ≡ given ++ map marked (units ++ unit ∷ []) = all ∙ ap (λ (us : List Marked). given ++ us) (sym (map_more units unit)) in
    record { front = (waiting ++ marked unit ∷ [], all); opened_waits = λ is. more; begun = λ is. absurd (cc); begun_waits = λ is. absurd (cc) }
shows given got Closed units unit some h =
    let all : got ++ marked unit ∷ [] ≡ given ++ (h.front.0 ++ marked unit ∷ []) = ap (λ (us : List Marked). us ++ marked unit ∷ []) h.front.1 ∙ append_assoc given h.front.0 (marked unit ∷ []) in
    record { front = (h.front.0 ++ marked unit ∷ [], all); opened_waits = λ is. absurd (cc); begun = λ is. absurd (cc); begun_waits = λ is. absurd (cc) }

open_not_begun : Open ≡ Begun → ⊥
open_not_begun same = absurd (cc)

gives : (given got : List Marked) (phase : Phase) (units : List MarkedUnit) (unit : MarkedUnit) → IsFirst phase units unit → Holds given got phase (map marked units)
    → Holds (given ++ marked unit ∷ []) got phase (map marked (drop 1 units))
gives given got phase units unit next h =
    let rest : List MarkedUnit = next.1 in
    let all : got ≡ (given ++ marked unit ∷ []) ++ map marked rest =
    h.opened_waits next.0 ∙ ap (λ (us : List MarkedUnit). given ++ map marked us) next.2 ∙ sym (append_assoc given (marked unit ∷ []) (map marked rest)) in
    let left : drop 1 units ≡ rest = ap (λ (us : List MarkedUnit). drop 1 us) next.2 in
    record {
      front = (map marked rest, all);
      opened_waits = λ same. all ∙ ap (λ (us : List MarkedUnit). (given ++ marked unit ∷ []) ++ map marked us) (sym left);
      begun = λ starts. absurd (open_not_begun (sym next.0 ∙ starts));
      begun_waits = λ starts. absurd (open_not_begun (sym next.0 ∙ starts));
    }

-- ---- one more event

pub submitted_more : (end : ℕ) (journal : List Event) (event : Event) → submitted end (journal ++ event ∷ []) ≡ submitted end journal ++ submitted end (event ∷ [])
submitted_more end [] event = refl
submitted_more end (events.Data at octets ∷ journal) event = by (at == end) (submitted_more end journal event)
  where
    by : (b : Bool) → submitted end (journal ++ event ∷ []) ≡ submitted end journal ++ submitted end (event ∷ [])
        → (if b then Normal octets ∷ submitted end (journal ++ event ∷ []) else submitted end (journal ++ event ∷ []))
        ≡ (if b then Normal octets ∷ submitted end journal else submitted end journal) ++ submitted end (event ∷ [])
    by true rest = ap (λ (us : List Marked). Normal octets ∷ us) rest
    by false rest = rest
submitted_more end (events.Expedite at octets ∷ journal) event = by (at == end) (submitted_more end journal event)
  where
    by : (b : Bool) → submitted end (journal ++ event ∷ []) ≡ submitted end journal ++ submitted end (event ∷ [])
        → (if b then Expedited octets ∷ submitted end (journal ++ event ∷ []) else submitted end (journal ++ event ∷ []))
        ≡ (if b then Expedited octets ∷ submitted end journal else submitted end journal) ++ submitted end (event ∷ [])
    by true rest = ap (λ (us : List Marked). Expedited octets ∷ us) rest
    by false rest = rest
submitted_more end (first ∷ journal) event = submitted_more end journal event

pub shown_more : (end : ℕ) (journal : List Event) (event : Event) → shown end (journal ++ event ∷ []) ≡ shown end journal ++ shown end (event ∷ [])
shown_more end [] event = refl
shown_more end (events.End at (tells.Got octets) ∷ journal) event = by (at == end) (shown_more end journal event)
  where
    by : (b : Bool) → shown end (journal ++ event ∷ []) ≡ shown end journal ++ shown end (event ∷ [])
        → (if b then Normal octets ∷ shown end (journal ++ event ∷ []) else shown end (journal ++ event ∷ []))
        ≡ (if b then Normal octets ∷ shown end journal else shown end journal) ++ shown end (event ∷ [])
    by true rest = ap (λ (us : List Marked). Normal octets ∷ us) rest
    by false rest = rest
shown_more end (events.End at (tells.Urgent octets) ∷ journal) event = by (at == end) (shown_more end journal event)
  where
    by : (b : Bool) → shown end (journal ++ event ∷ []) ≡ shown end journal ++ shown end (event ∷ [])
        → (if b then Expedited octets ∷ shown end (journal ++ event ∷ []) else shown end (journal ++ event ∷ []))
        ≡ (if b then Expedited octets ∷ shown end journal else shown end journal) ++ shown end (event ∷ [])
    by true rest = ap (λ (us : List Marked). Expedited octets ∷ us) rest
    by false rest = rest
shown_more end (first ∷ journal) event = shown_more end journal event

-- an event by which this end is given, and that one shows, these units
module _ (journal : List Event) (event : Event) (from to : ℕ) where
  by_units : (phase : Phase) (waiting given got : List Marked) → submitted to (event ∷ []) ≡ given → shown from (event ∷ []) ≡ got
      → Holds (submitted to journal ++ given) (shown from journal ++ got) phase waiting
      → Holds (submitted to (journal ++ event ∷ [])) (shown from (journal ++ event ∷ [])) phase waiting
  by_units phase waiting given got given_is got_is h =
      let all_given : submitted to (journal ++ event ∷ []) ≡ submitted to journal ++ given = submitted_more to journal event ∙ ap (λ (us : List Marked). submitted to journal ++ us) given_is in
      let all_got : shown from (journal ++ event ∷ []) ≡ shown from journal ++ got = shown_more from journal event ∙ ap (λ (us : List Marked). shown from journal ++ us) got_is in
      subst (λ (us : List Marked). Holds us (shown from (journal ++ event ∷ [])) phase waiting) (sym all_given)
      (subst (λ (us : List Marked). Holds (submitted to journal ++ given) us phase waiting) (sym all_got) h)

  quiet_as : (phase : Phase) (waiting : List Marked) → submitted to (event ∷ []) ≡ [] → shown from (event ∷ []) ≡ [] → Holds (submitted to journal) (shown from journal) phase waiting
      → Holds (submitted to (journal ++ event ∷ [])) (shown from (journal ++ event ∷ [])) phase waiting
  quiet_as phase waiting none_given none_got h =
      by_units phase waiting [] [] none_given none_got
      (subst (λ (us : List Marked). Holds us (shown from journal ++ []) phase waiting) (sym (append-nil (submitted to journal)))
      (subst (λ (us : List Marked). Holds (submitted to journal) us phase waiting) (sym (append-nil (shown from journal))) h))

  -- ---- one way after an event

  pub quiet : (phase : Phase) (units : List MarkedUnit) → submitted to (event ∷ []) ≡ [] → shown from (event ∷ []) ≡ [] → HoldsWay journal from to phase units
      → HoldsWay (journal ++ event ∷ []) from to phase units
  quiet phase units g s h = quiet_as phase (map marked units) g s h

  pub quiet_opens : (phase : Phase) (units : List MarkedUnit) → submitted to (event ∷ []) ≡ [] → shown from (event ∷ []) ≡ [] → HoldsWay journal from to phase units
      → HoldsWay (journal ++ event ∷ []) from to (opened phase) units
  quiet_opens phase units g s h = quiet_as (opened phase) (map marked units) g s (opens (submitted to journal) (shown from journal) phase (map marked units) h)

  pub quiet_closes : (phase : Phase) (units : List MarkedUnit) → submitted to (event ∷ []) ≡ [] → shown from (event ∷ []) ≡ [] → HoldsWay journal from to phase units
      → HoldsWay (journal ++ event ∷ []) from to Closed []
  quiet_closes phase units g s h = quiet_as Closed [] g s (closes (submitted to journal) (shown from journal) phase (map marked units) h)

  pub given_one : (phase : Phase) (units : List MarkedUnit) (unit : MarkedUnit) → submitted to (event ∷ []) ≡ marked unit ∷ [] → shown from (event ∷ []) ≡ [] → IsFirst phase units unit
      → HoldsWay journal from to phase units → HoldsWay (journal ++ event ∷ []) from to phase (drop 1 units)
  given_one phase units unit given_is none_got next h =
      by_units phase (map marked (drop 1 units)) (marked unit ∷ []) [] given_is none_got
      (subst (λ (us : List Marked). Holds (submitted to journal ++ marked unit ∷ []) us phase (map marked (drop 1 units))) (sym (append-nil (shown from journal)))
      (gives (submitted to journal) (shown from journal) phase units unit next h))

  pub shown_one : (phase : Phase) (units : List MarkedUnit) (unit : MarkedUnit) → submitted to (event ∷ []) ≡ [] → shown from (event ∷ []) ≡ marked unit ∷ [] → phase ≢ Begun
      → HoldsWay journal from to phase units → HoldsWay (journal ++ event ∷ []) from to phase (kept phase units unit)
  shown_one phase units unit none_given got_is some h =
      by_units phase (map marked (kept phase units unit)) [] (marked unit ∷ []) none_given got_is
      (subst (λ (us : List Marked). Holds us (shown from journal ++ marked unit ∷ []) phase (map marked (kept phase units unit))) (sym (append-nil (submitted to journal)))
      (shows (submitted to journal) (shown from journal) phase units unit some h))
