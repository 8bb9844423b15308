-- An indication makes the called end of an association: it has the next number, and is the latest at its reference, where no other end stands any more; and its
-- partner is the request of that association.
use Rattle.std.proofs.Common.{◌≡◌, ◌⊎◌, ◌<◌, ◌≤◌, ℕ, ◌+◌, ◌==◌, Bool, true, false, if◌then◌else◌, List, [], ◌∷◌, ◌++◌, length, map, slice_get, slice_set, Option, Some, None, refl, sym, ◌∙◌, ap, subst, inl, inr, arith}
use Rattle.std.proofs.lemmas.Bool.{cases_eq}
use Rattle.std.proofs.lemmas.Option.{slice_get_within}
use Rattle.script_journal.specs.Partner.{IsLatest, Partner}
use Rattle.script_journal.specs.declared.event.Event.{Event}
use Rattle.script_journal.specs.declared.event.Event.TheVariants as events
use Rattle.script_journal.specs.declared.event.Indication.{Indication}
use Rattle.script_journal.specs.declared.event.Request.{Request}
use Rattle.tp4_conn.specs.End.{End}
use Rattle.law_tp4_history.specs.Journals.{MakesNone}
use Rattle.tp4_world.specs.World.{latest}
use Rattle.tp4_world.specs.declared.place.EndAt.{EndAt}
use Rattle.law_tp4_associations.specs.Association.{Association, cleared, party, system_of}
use Rattle.law_tp4_lawful.proofs.MakesPlaces.{latest_last as latest_here}
use Rattle.law_calm_run.proofs.Story.{AreLinked, AreNumbered, IsLatestOf, Numbers}
use Rattle.law_calm_run.proofs.Continuing.{cleared_continues, get_set_other, get_set_same, left_party, length_map, length_set, map_get, map_got, none_some, numbered_on, some_same}
use Rattle.law_calm_run.proofs.Numbering.{latest_elsewhere, none_at_cleared, number_here, number_there, numbered_elsewhere, one_more}
use Rattle.law_calm_run.proofs.Partners.{latest_heard, one_latest, partner_new}

-- the called end of association k has this number
abbrev pub with_called : Numbers → ℕ → ℕ → Numbers
with_called number k n j by = if j == k then (if by then number j true else Some n) else number j by

module _ (ends : List EndAt) (all : List Association) (number : Numbers) (reference k : ℕ) (a : Association) (x y : End) (n : AreNumbered ends all number)
    (at_k : slice_get all k ≡ Some a) (calling : a.calling ≡ Some x) (own : y.base.own ≡ reference) (apart : a.from.system ≡ a.to → x.base.own ≡ reference → ⊥) where
  abbrev place : EndAt
  place = record { system = a.to; reference = reference }

  abbrev old : List Association
  old = map (cleared a.to reference) all

  abbrev both : Association
  both = record a { called = Some y }

  abbrev numbers : Numbers
  numbers = with_called number k (length ends + 1)

  kept : AreNumbered (ends ++ place ∷ []) old number
  kept = numbered_elsewhere ends place old number (numbered_on ends all old number n (cleared_continues all a.to reference)) (none_at_cleared all a.to reference)

  old_at : slice_get old k ≡ Some (cleared a.to reference a)
  old_at = map_get (cleared a.to reference) all k a at_k

  as_long : length (slice_set old k both) ≡ length all
  as_long = length_set old k both ∙ length_map (cleared a.to reference) all

  k_within : k < length all
  k_within = slice_get_within all k a at_k

  caller_same : (j : ℕ) → numbers j true ≡ number j true
  caller_same j = elim (cases_eq j k) [
    | inl same ↦ ap (λ (i : ℕ). numbers i true) same ∙ (number_here k (number k true) (number k true) ∙ ap (λ (i : ℕ). number i true) (sym same))
    | inr other ↦ number_there j k (number j true) (number j true) other
  ]

  other_same : (j : ℕ) (by : Bool) → (j ≡ k → ⊥) → numbers j by ≡ number j by
  other_same j by other = number_there j k (if by then number j true else Some (length ends + 1)) (number j by) other

  called_now : numbers k false ≡ Some (length ends + 1)
  called_now = number_here k (Some (length ends + 1)) (number k false)

  -- what stands at each place of the list
  data Stands (j : ℕ) (b : Association) : Type 0 where
    There : j ≡ k → b ≡ both → Stands j b
    Elsewhere : (j ≡ k → ⊥) → slice_get old j ≡ Some b → Stands j b

  stands : (j : ℕ) (b : Association) → slice_get (slice_set old k both) j ≡ Some b → Stands j b
  stands j b at = elim (cases_eq j k) [
    | inl same ↦
        There same (some_same b both (sym at ∙ (ap (slice_get (slice_set old k both)) same ∙ get_set_same old k both (cleared a.to reference a) old_at)))
    | inr other ↦ Elsewhere other (sym (get_set_other old k j both other) ∙ at)
  ]

  party_at_k : (by : Bool) (end : End) → party both by ≡ Some end → numbers k by ≡ Some (latest (ends ++ place ∷ []) (system_of both by) end.base.own)
  party_at_k true end is =
      let same : x ≡ end = some_same x end (sym calling ∙ is) in
      caller_same k
      ∙ n.party_is k a true end at_k is
      ∙ ap (λ (m : ℕ). Some m) (sym (latest_elsewhere ends place a.from.system end.base.own (λ here at. apart here (ap (λ (e : End). e.base.own) same ∙ at))))
  party_at_k false end is =
      let same : y ≡ end = some_same y end is in
      called_now
      ∙ ap (λ (m : ℕ). Some m) (sym (ap (λ (r : ℕ). latest (ends ++ place ∷ []) a.to r) (ap (λ (e : End). e.base.own) (sym same) ∙ own) ∙ latest_here ends a.to reference))

  party_numbered : (j : ℕ) (b : Association) (by : Bool) (end : End) → Stands j b → party b by ≡ Some end → numbers j by ≡ Some (latest (ends ++ place ∷ []) (system_of b by) end.base.own)
  party_numbered j b by end (There same b_is) is =
      ap (λ (i : ℕ). numbers i by) same
      ∙ party_at_k by end (subst (λ (c : Association). party c by ≡ Some end) b_is is)
      ∙ ap (λ (c : Association). Some (latest (ends ++ place ∷ []) (system_of c by) end.base.own)) (sym b_is)
  party_numbered j b by end (Elsewhere other at) is = other_same j by other ∙ kept.party_is j b by end at is

  -- a number is an old one, or that of the new end
  data NumberOf (j : ℕ) (by : Bool) (m : ℕ) : Type 0 where
    Old : number j by ≡ Some m → NumberOf j by m
    New : j ≡ k → by ≡ false → m ≡ length ends + 1 → NumberOf j by m

  number_of : (j : ℕ) (by : Bool) (m : ℕ) → numbers j by ≡ Some m → NumberOf j by m
  number_of j true m is = Old (sym (caller_same j) ∙ is)
  number_of j false m is = elim (cases_eq j k) [
    | inl same ↦ New same refl (sym (some_same (length ends + 1) m (sym called_now ∙ (ap (λ (i : ℕ). numbers i false) (sym same) ∙ is))))
    | inr other ↦ Old (sym (other_same j false other) ∙ is)
  ]

  low_of : (j : ℕ) (by : Bool) (m : ℕ) → j < length all → NumberOf j by m → m ≤ length ends + 1
  low_of j by m low (Old is) = let le = n.low j by m low is in omega (arith, le)
  low_of j by m low (New same called is) = omega (arith, is)

  one_of : (j i : ℕ) (by other : Bool) (m : ℕ) → j < length all → i < length all → NumberOf j by m → NumberOf i other m → (j ≡ i) × (by ≡ other)
  one_of j i by other m low below (Old is) (Old same) = n.one j i by other m low below is same
  one_of j i by other m low below (Old is) (New same called new) = let le = n.low j by m low is in absurd (omega (arith, le, new))
  one_of j i by other m low below (New same called new) (Old is) = let le = n.low i other m below is in absurd (omega (arith, le, new))
  one_of j i by other m low below (New same called new) (New also alike is) = (same ∙ sym also, called ∙ sym alike)

  shorter : (j : ℕ) → j < length (slice_set old k both) → j < length all
  shorter j low = omega (arith, low, as_long)

  -- the new end of an indication has the next number
  pub numbered_begins : AreNumbered (ends ++ place ∷ []) (slice_set old k both) numbers
  numbered_begins = record {
    caller = λ j low. let h = n.caller j (shorter j low) in (h.0, caller_same j ∙ h.1);
    party_is = λ j b by end at is. party_numbered j b by end (stands j b at) is;
    low = λ j by m low is. let le = low_of j by m (shorter j low) (number_of j by m is) in omega (arith, le, one_more ends place);
    one = λ j i by other m low below is same. one_of j i by other m (shorter j low) (shorter i below) (number_of j by m is) (number_of i other m same);
  }

  -- and its partner is the request of its association, whose called end had no number; partners stay
  pub linked_begins : (own_address : ℕ → List ℕ) (journal rest : List Event) (indication : Indication) → AreLinked own_address journal all number → MakesNone rest → number k false ≡ None
      → indication.calling ≡ own_address a.from.system → indication.partner ≡ a.from.reference → indication.end ≡ length ends + 1
      → AreLinked own_address (journal ++ events.Incoming indication ∷ rest) (slice_set old k both) numbers
  linked_begins own_address journal rest indication l none uncalled calling_is partner_is end_is = record {
    partners = λ p q heard asked h. partner_of p q heard asked (partner_new journal rest indication none p q heard asked h);
    latest_is = λ j b end at is. latest_of j b end (stands j b at) is;
  }
    where
      -- the latest request of the calling end
      asked_by : IsLatestOf journal (own_address a.from.system) a.from.reference (number k true)
      asked_by = l.latest_is k a x at_k calling

      old_called : (j : ℕ) (m : ℕ) → number j false ≡ Some m → numbers j false ≡ Some m
      old_called j m is = elim (cases_eq j k) [
        | inl same ↦ absurd (none_some m (sym uncalled ∙ (ap (λ (i : ℕ). number i false) (sym same) ∙ is)))
        | inr other ↦ other_same j false other ∙ is
      ]

      partner_of : (p q : ℕ) (heard : Indication) (asked : Request) → Partner journal p q heard asked ⊎ ((heard ≡ indication) × IsLatest journal (length journal) q indication.calling indication.partner asked)
          → (j : ℕ) × (j < length (slice_set old k both)) × (numbers j true ≡ Some asked.end) × (numbers j false ≡ Some heard.end)
      partner_of p q heard asked (inl h) =
          let was = l.partners p q heard asked h in
          (was.0, let low = was.1 in omega (arith, low, as_long), caller_same was.0 ∙ was.2, old_called was.0 heard.end was.3)
      partner_of p q heard asked (inr new) =
          let latest_there : IsLatest journal (length journal) q (own_address a.from.system) a.from.reference asked =
          subst (λ (r : ℕ). IsLatest journal (length journal) q (own_address a.from.system) r asked) partner_is
          (subst (λ (address : List ℕ). IsLatest journal (length journal) q address indication.partner asked) calling_is new.1) in
          let same : asked_by.asked ≡ asked = one_latest journal (length journal) asked_by.place q (own_address a.from.system) a.from.reference asked_by.asked asked asked_by.latest_is latest_there in (
            k,
            omega (arith, k_within, as_long),
            caller_same k ∙ (asked_by.number_is ∙ ap (λ (r : Request). Some r.end) same),
            called_now ∙ ap (λ (m : ℕ). Some m) (sym (ap (λ (h : Indication). h.end) new.0 ∙ end_is)),
          )

      on : (address : List ℕ) (by : ℕ) (number_was number_now : Option ℕ) → number_now ≡ number_was → IsLatestOf journal address by number_was
          → IsLatestOf (journal ++ events.Incoming indication ∷ rest) address by number_now
      on address by number_was number_now same was = record {
        place = was.place;
        asked = was.asked;
        latest_is = latest_heard journal rest indication was.place address by was.asked none was.latest_is;
        number_is = same ∙ was.number_is;
      }

      latest_of : (j : ℕ) (b : Association) (end : End) → Stands j b → b.calling ≡ Some end
          → IsLatestOf (journal ++ events.Incoming indication ∷ rest) (own_address b.from.system) b.from.reference (numbers j true)
      latest_of j b end (There same b_is) is =
          subst (λ (e : EndAt). IsLatestOf (journal ++ events.Incoming indication ∷ rest) (own_address e.system) e.reference (numbers j true)) (sym (ap (λ (c : Association). c.from) b_is))
          (on (own_address a.from.system) a.from.reference (number k true) (numbers j true) (caller_same j ∙ ap (λ (i : ℕ). number i true) same) asked_by)
      latest_of j b end (Elsewhere other at) is =
          let h = map_got (cleared a.to reference) all j b at in
          let left = left_party a.to reference h.0 true end (subst (λ (c : Association). party c true ≡ Some end) h.2 is) in
          subst (λ (e : EndAt). IsLatestOf (journal ++ events.Incoming indication ∷ rest) (own_address e.system) e.reference (numbers j true)) (sym (ap (λ (c : Association). c.from) h.2))
          (on (own_address h.0.from.system) h.0.from.reference (number j true) (numbers j true) (caller_same j) (l.latest_is j h.0 end h.1 left.was))
