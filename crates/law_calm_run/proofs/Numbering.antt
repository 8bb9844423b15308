-- A connect makes an end: it has the next number, and is the latest at its reference, where no other end stands any more. So each end that stands keeps its
-- number, and its request is the latest of its address and reference.
use Rattle.std.proofs.Common.{◌≡◌, ◌⊎◌, ◌<◌, ◌≤◌, ℕ, ◌+◌, ◌==◌, Bool, true, false, if◌then◌else◌, List, [], ◌∷◌, ◌++◌, length, length-append, map, slice_get, Option, Some, None, refl, sym, ◌∙◌, ap, subst, inl, inr, arith}
use Rattle.std.proofs.lemmas.Bool.{cases_eq}
use Rattle.std.proofs.lemmas.Bool.Decides.{eqb_tells, nat_tests}
use Rattle.std.proofs.lemmas.Option.{slice_get_within}
use Rattle.script_journal.specs.Partner.{IsLatest}
use Rattle.script_journal.specs.declared.event.Event.{Event}
use Rattle.script_journal.specs.declared.event.Event.TheVariants as events
use Rattle.script_journal.specs.declared.event.Request.{Request}
use Rattle.tp4_conn.specs.End.{End}
use Rattle.law_tp4_history.specs.Journals.{MakesNone}
use Rattle.tp4_world.specs.World.{latest}
use Rattle.tp4_world.specs.declared.place.EndAt.{EndAt}
use Rattle.law_tp4_associations.specs.Association.{Association, cleared, party, system_of}
use Rattle.law_tp4_lawful.proofs.MakesPlaces.{latest_last as latest_here}
pub use Rattle.law_calm_run.proofs.Newest.{latest_elsewhere}
use Rattle.law_calm_run.proofs.Story.{AreLinked, AreNumbered, IsLatestOf, Numbers}
use Rattle.law_calm_run.proofs.Continuing.{cleared_continues, get_behind, left_party, length_map, map_got, none_some, numbered_on, some_same}
use Rattle.law_calm_run.proofs.Partners.{latest_connect, latest_new, partner_connect}

-- the calling end of association k has this number, and its called end none
abbrev pub with_caller : Numbers → ℕ → ℕ → Numbers
with_caller number k n j by = if j == k then (if by then Some n else None) else number j by

-- ---- numbers

pub same_number : (n : ℕ) → (n == n) ≡ true
same_number n = grind (arith, nat_tests)

pub other_number : (m n : ℕ) → (m ≡ n → ⊥) → (m == n) ≡ false
other_number m n apart = elim (eqb_tells m n) [ inl same ↦ absurd (apart same.1) | inr other ↦ other.0 ]

pub number_here : (k : ℕ) (one other : Option ℕ) → (if k == k then one else other) ≡ one
number_here k one other = ap (λ (b : Bool). if b then one else other) (same_number k)

pub number_there : (j k : ℕ) (one other : Option ℕ) → (j ≡ k → ⊥) → (if j == k then one else other) ≡ other
number_there j k one other apart = ap (λ (b : Bool). if b then one else other) (other_number j k apart)

pub one_more : {A : Type 0} (xs : List A) (x : A) → length (xs ++ x ∷ []) ≡ length xs + 1
one_more xs x = length-append xs (x ∷ []) ∙ omega arith

-- no end stands at the place
abbrev pub NoneAt : EndAt → List Association → Type 0
NoneAt place all = (k : ℕ) (a : Association) (by : Bool) (end : End) → slice_get all k ≡ Some a → party a by ≡ Some end → system_of a by ≡ place.system → end.base.own ≡ place.reference → ⊥

pub none_at_cleared : (all : List Association) (system reference : ℕ) → NoneAt (record { system = system; reference = reference }) (map (cleared system reference) all)
none_at_cleared all system reference k b by end at is =
    let h = map_got (cleared system reference) all k b at in
    let left = left_party system reference h.0 by end (subst (λ (c : Association). party c by ≡ Some end) h.2 is) in
    let system_is : system_of b by ≡ system_of h.0 by = ap (λ (c : Association). system_of c by) h.2 ∙ cleared_system h.0 by in
    λ here own. left.elsewhere (sym system_is ∙ here) own
  where
    cleared_system : (a : Association) (by : Bool) → system_of (cleared system reference a) by ≡ system_of a by
    cleared_system a true = refl
    cleared_system a false = refl

-- where none stands at the place of a new end, all keep their numbers
pub numbered_elsewhere : (ends : List EndAt) (place : EndAt) (all : List Association) (number : Numbers) → AreNumbered ends all number → NoneAt place all → AreNumbered (ends ++ place ∷ []) all number
numbered_elsewhere ends place all number n none = record {
  caller = n.caller;
  party_is = λ k a by end at is.
      n.party_is k a by end at is ∙ ap (λ (m : ℕ). Some m) (sym (latest_elsewhere ends place (system_of a by) end.base.own (none k a by end at is)));
  low = λ k by m within is. let low = n.low k by m within is in omega (arith, low, one_more ends place);
  one = n.one;
}

module _ (ends : List EndAt) (all : List Association) (number : Numbers) (system reference : ℕ) (a : Association) (x : End) (n : AreNumbered ends all number)
    (from : a.from ≡ record { system = system; reference = reference }) (uncalled : a.called ≡ None) (calling : a.calling ≡ Some x) (own : x.base.own ≡ reference) where
  abbrev place : EndAt
  place = record { system = system; reference = reference }

  abbrev old : List Association
  old = map (cleared system reference) all

  abbrev numbers : Numbers
  numbers = with_caller number (length all) (length ends + 1)

  before : AreNumbered ends old number
  before = numbered_on ends all old number n (cleared_continues all system reference)

  kept : AreNumbered (ends ++ place ∷ []) old number
  kept = numbered_elsewhere ends place old number before (none_at_cleared all system reference)

  as_long : length old ≡ length all
  as_long = length_map (cleared system reference) all

  -- a place in the longer list
  within_or_last : (k : ℕ) → k < length (old ++ a ∷ []) → (k < length all) ⊎ (k ≡ length all)
  within_or_last k low = elim (cases_eq k (length all)) [ inl same ↦ inr same | inr other ↦ let apart : (k ≡ length all) → ⊥ = other in inl (nearer apart) ]
    where
      nearer : ((k ≡ length all) → ⊥) → k < length all
      nearer apart = grind (arith, low, one_more old a, as_long)

  old_number : (k : ℕ) (by : Bool) → k < length all → numbers k by ≡ number k by
  old_number k by low = number_there k (length all) (if by then Some (length ends + 1) else None) (number k by) (λ same. omega (arith, low, same))

  new_number : (by : Bool) → numbers (length all) by ≡ (if by then Some (length ends + 1) else None)
  new_number by = number_here (length all) (if by then Some (length ends + 1) else None) (number (length all) by)

  within_old : (k : ℕ) (b : Association) → slice_get old k ≡ Some b → k < length all
  within_old k b at = let low = slice_get_within old k b at in omega (arith, low, as_long)

  new_party : (by : Bool) (end : End) → party a by ≡ Some end → numbers (length all) by ≡ Some (latest (ends ++ place ∷ []) (system_of a by) end.base.own)
  new_party true end is =
      let same : end ≡ x = some_same end x (sym is ∙ calling) in
      new_number true
      ∙ ap (λ (m : ℕ). Some m) (sym ((λ i. latest (ends ++ place ∷ []) (from i).system ((ap (λ (e : End). e.base.own) same ∙ own) i)) ∙ latest_here ends system reference))
  new_party false end is = absurd (none_some end (sym uncalled ∙ is))

  party_numbered : (k : ℕ) (b : Association) (by : Bool) (end : End) → (slice_get old k ≡ Some b) ⊎ ((k ≡ length old) × (b ≡ a)) → party b by ≡ Some end
      → numbers k by ≡ Some (latest (ends ++ place ∷ []) (system_of b by) end.base.own)
  party_numbered k b by end (inl at) is = old_number k by (within_old k b at) ∙ kept.party_is k b by end at is
  party_numbered k b by end (inr last) is =
      let at : k ≡ length all = last.0 ∙ as_long in
      ap (λ (j : ℕ). numbers j by) at
      ∙ new_party by end (subst (λ (c : Association). party c by ≡ Some end) last.1 is)
      ∙ ap (λ (c : Association). Some (latest (ends ++ place ∷ []) (system_of c by) end.base.own)) (sym last.1)

  -- the number of the new end is above all others
  new_is : (by : Bool) (m : ℕ) → numbers (length all) by ≡ Some m → (by ≡ true) × (m ≡ length ends + 1)
  new_is true m is = (refl, sym (some_same (length ends + 1) m (sym (new_number true) ∙ is)))
  new_is false m is = absurd (none_some m (sym (new_number false) ∙ is))

  low_of : (k : ℕ) (by : Bool) (m : ℕ) → (k < length all) ⊎ (k ≡ length all) → numbers k by ≡ Some m → m ≤ length ends + 1
  low_of k by m (inl low) is = let le = n.low k by m low (sym (old_number k by low) ∙ is) in omega (arith, le)
  low_of k by m (inr last) is = let e = (new_is by m (sym (ap (λ (j : ℕ). numbers j by) last) ∙ is)).1 in omega (arith, e)

  one_of : (k j : ℕ) (by other : Bool) (m : ℕ) → (k < length all) ⊎ (k ≡ length all) → (j < length all) ⊎ (j ≡ length all) → numbers k by ≡ Some m → numbers j other ≡ Some m
      → (k ≡ j) × (by ≡ other)
  one_of k j by other m (inl low) (inl below) is same = n.one k j by other m low below (sym (old_number k by low) ∙ is) (sym (old_number j other below) ∙ same)
  one_of k j by other m (inl low) (inr last) is same =
      let le = n.low k by m low (sym (old_number k by low) ∙ is) in
      let e = (new_is other m (sym (ap (λ (i : ℕ). numbers i other) last) ∙ same)).1 in
      absurd (omega (arith, le, e))
  one_of k j by other m (inr last) (inl below) is same =
      let le = n.low j other m below (sym (old_number j other below) ∙ same) in
      let e = (new_is by m (sym (ap (λ (i : ℕ). numbers i by) last) ∙ is)).1 in
      absurd (omega (arith, le, e))
  one_of k j by other m (inr last) (inr end) is same = (
    last ∙ sym end,
    (new_is by m (sym (ap (λ (i : ℕ). numbers i by) last) ∙ is)).0 ∙ sym (new_is other m (sym (ap (λ (i : ℕ). numbers i other) end) ∙ same)).0,
  )

  caller_of : (k : ℕ) → (k < length all) ⊎ (k ≡ length all) → (m : ℕ) × (numbers k true ≡ Some m)
  caller_of k (inl low) = let h = n.caller k low in (h.0, old_number k true low ∙ h.1)
  caller_of k (inr last) = (length ends + 1, ap (λ (j : ℕ). numbers j true) last ∙ new_number true)

  -- the new end of a connect has the next number
  pub numbered_connect : AreNumbered (ends ++ place ∷ []) (old ++ a ∷ []) numbers
  numbered_connect = record {
    caller = λ k low. caller_of k (within_or_last k low);
    party_is = λ k b by end at is. party_numbered k b by end (get_behind old a k b at) is;
    low = λ k by m low is. let le = low_of k by m (within_or_last k low) is in omega (arith, le, one_more ends place);
    one = λ k j by other m low below is same. one_of k j by other m (within_or_last k low) (within_or_last j below) is same;
  }

  -- and its request is the latest of its address and reference; partners stay
  pub linked_connect : (own_address : ℕ → List ℕ) (journal rest : List Event) (request : Request) → AreLinked own_address journal all number → MakesNone rest
      → request.calling ≡ own_address system → request.reference ≡ reference → request.end ≡ length ends + 1
      → ((k : ℕ) (b : Association) (y : End) → slice_get all k ≡ Some b → b.calling ≡ Some y → own_address b.from.system ≡ own_address system → b.from.reference ≡ reference
      → (b.from.system ≡ system) × (y.base.own ≡ reference))
      → AreLinked own_address (journal ++ events.Connect request ∷ rest) (old ++ a ∷ []) numbers
  linked_connect own_address journal rest request l none calling_is reference_is end_is others = record {
    partners = λ p q heard asked h.
        let was = l.partners p q heard asked (partner_connect journal rest request none p q heard asked h) in (
          was.0,
          let low = was.1 in omega (arith, low, one_more old a, as_long),
          old_number was.0 true was.1 ∙ was.2,
          old_number was.0 false was.1 ∙ was.3,
        );
    latest_is = λ k b y at is. latest_of k b y (get_behind old a k b at) is;
  }
    where
      latest_of : (k : ℕ) (b : Association) (y : End) → (slice_get old k ≡ Some b) ⊎ ((k ≡ length old) × (b ≡ a)) → b.calling ≡ Some y
          → IsLatestOf (journal ++ events.Connect request ∷ rest) (own_address b.from.system) b.from.reference (numbers k true)
      latest_of k b y (inl at) is =
          let h = map_got (cleared system reference) all k b at in
          let left = left_party system reference h.0 true y (subst (λ (c : Association). party c true ≡ Some y) h.2 is) in
          let was = l.latest_is k h.0 y h.1 left.was in
          let from_is : b.from ≡ h.0.from = ap (λ (c : Association). c.from) h.2 in
          subst (λ (e : EndAt). IsLatestOf (journal ++ events.Connect request ∷ rest) (own_address e.system) e.reference (numbers k true)) (sym from_is)
          (record {
            place = was.place;
            asked = was.asked;
            latest_is = latest_connect journal rest request was.place (own_address h.0.from.system) h.0.from.reference was.asked none
                (λ same by.
                let both = others k h.0 y h.1 left.was (sym same ∙ calling_is) (sym by ∙ reference_is) in
                left.elsewhere both.0 both.1)
                was.latest_is;
            number_is = old_number k true (within_old k b at) ∙ was.number_is;
          })
      latest_of k b y (inr last) is =
          let from_is : b.from ≡ place = ap (λ (c : Association). c.from) last.1 ∙ from in
          subst (λ (e : EndAt). IsLatestOf (journal ++ events.Connect request ∷ rest) (own_address e.system) e.reference (numbers k true)) (sym from_is)
          (record {
            place = length journal;
            asked = request;
            latest_is =
                subst (λ (r : ℕ). IsLatest (journal ++ events.Connect request ∷ rest) (length (journal ++ events.Connect request ∷ rest)) (length journal) (own_address system) r request) reference_is
                (subst (λ (address : List ℕ). IsLatest (journal ++ events.Connect request ∷ rest) (length (journal ++ events.Connect request ∷ rest)) (length journal) address request.reference request) calling_is
                (latest_new journal rest request none));
            number_is = ap (λ (j : ℕ). numbers j true) (last.0 ∙ as_long) ∙ (new_number true ∙ ap (λ (m : ℕ). Some m) (sym end_is));
          })
