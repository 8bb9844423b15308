-- A connect makes the calling end of a new association: it has the next number and no units yet, and each pair stays. The reference that it is given is
-- no other end's that has to keep it.
use Rattle.std.proofs.Common.{◌≡◌, ◌⊎◌, ◌<◌, ℕ, ◌+◌, ◌==◌, Bool, true, false, if◌then◌else◌, List, [], ◌∷◌, ◌++◌, length, map, slice_get, Option, Some, None, refl, sym, ◌∙◌, ap, subst, inl, inr, arith}
use Rattle.std.proofs.lemmas.Option.{slice_get_within}
use Rattle.script_journal.specs.declared.event.Event.{Event as JournalEvent}
use Rattle.script_journal.specs.declared.event.Event.TheVariants as events
use Rattle.script_journal.specs.declared.event.Request.{Request}
use Rattle.tp4_flow.specs.declared.step.Sent.{Sent}
use Rattle.tp4_conn.specs.End.{End}
use Rattle.tp4_conn.specs.declared.states.InCrWait.{InCrWait}
use Rattle.tp4_conn.specs.declared.states.StateData.TheVariants.{CrWait}
use Rattle.law_tp4_history.specs.Journals.{MakesNone}
use Rattle.tp4_world.specs.declared.place.EndAt.{EndAt}
use Rattle.law_tp4_associations.specs.Association.{Association, Posted, cleared, party, waiting, without}
use Rattle.law_tp4_associations.specs.Phase.{IsInUse}
use Rattle.law_calm_run.proofs.Story.{AreOpening, AreOwn, HasNoUnits, IsYoung, Numbers, Runs, Tells}
use Rattle.law_calm_run.proofs.Continuing.{get_behind, left_party, length_map, map_got, none_some, some_same}
use Rattle.law_calm_run.proofs.Numbering.{linked_connect, number_here, number_there, numbered_connect, one_more, with_caller}
use Rattle.law_calm_run.proofs.Pairing.{gave_none, showed_none}

-- what was so of associations, is so where the ends at one place were taken out of them
pub record WasThere (all : List Association) (k : ℕ) (by : Bool) (end : End) : Type 0 where
  pub a : Association
  pub is : slice_get all k ≡ Some a
  pub end_is : party a by ≡ Some end

pub was_there : (all : List Association) (system reference k : ℕ) (b : Association) (by : Bool) (end : End) → slice_get (map (cleared system reference) all) k ≡ Some b → party b by ≡ Some end
    → WasThere all k by end
was_there all system reference k b by end at is =
    let h = map_got (cleared system reference) all k b at in
    record { a = h.0; is = h.1; end_is = (left_party system reference h.0 by end (subst (λ (c : Association). party c by ≡ Some end) h.2 is)).was }

same_numbers : (m n : ℕ) → (m == n) ≡ true → m ≡ n
same_numbers m n is = grind arith

-- the end of that system and reference does not stand any more
pub record IsFreed (system reference : ℕ) (a : Association) : Type 0 where
  pub end : End
  pub was : a.called ≡ Some end
  pub system_is : a.to ≡ system
  pub reference_is : end.base.own ≡ reference

pub cleared_called : (system reference : ℕ) (a : Association) → (cleared system reference a).called ≡ None → (a.called ≡ None) ⊎ IsFreed system reference a
cleared_called system reference a none = by_place (a.to == system) refl a.called refl none
  where
    by_place : (here : Bool) → (a.to == system) ≡ here → (place : Option End) → a.called ≡ place → (if here then without reference place else place) ≡ None → (a.called ≡ None) ⊎ IsFreed system reference a
    by_place here at None was none = inl was
    by_place false at (Some end) was none = absurd (none_some end (sym none))
    by_place true at (Some end) was none = by_own (end.base.own == reference) refl none
      where
        by_own : (own : Bool) → (end.base.own == reference) ≡ own → (if own then None else Some end) ≡ None → (a.called ≡ None) ⊎ IsFreed system reference a
        by_own true same none = inr (record { end = end; was = was; system_is = same_numbers a.to system at; reference_is = same_numbers end.base.own reference same })
        by_own false other none = absurd (none_some end (sym none))

-- the called end of that system and reference is none that has to keep it
abbrev pub IsFree : ℕ → List Association → (system reference : ℕ) → Type 0
IsFree now all system reference = (k : ℕ) (a : Association) (y : End) → slice_get all k ≡ Some a → a.called ≡ Some y → a.to ≡ system → y.base.own ≡ reference → IsInUse now y → ⊥

-- both ends are those of the association as it was
pub both_there : (all : List Association) (system reference k : ℕ) (b : Association) (x y : End) → slice_get (map (cleared system reference) all) k ≡ Some b → b.calling ≡ Some x → b.called ≡ Some y
    → (a : Association) × (slice_get all k ≡ Some a) × (a.calling ≡ Some x) × (a.called ≡ Some y)
both_there all system reference k b x y at x_is y_is =
    let h = map_got (cleared system reference) all k b at in (
      h.0,
      h.1,
      (left_party system reference h.0 true x (subst (λ (c : Association). party c true ≡ Some x) h.2 x_is)).was,
      (left_party system reference h.0 false y (subst (λ (c : Association). party c false ≡ Some y) h.2 y_is)).was,
    )

module _ (Running : Runs) (stays : (journal made : List JournalEvent) (now c d : ℕ) (x y : End) (forth back : List Sent) → Running journal now c d x y forth back → HasNoUnits made c → HasNoUnits made d
    → Running (journal ++ made) now c d x y forth back)
    (own_address : ℕ → List ℕ) (now : ℕ) (ends : List EndAt) (all : List Association) (queue : List Posted) (number : Numbers) (journal : List JournalEvent)
    (t : Tells Running own_address now ends all queue number journal) where
  pub still_none : (made : List JournalEvent) (m : ℕ) → HasNoUnits journal m → HasNoUnits made m → HasNoUnits (journal ++ made) m
  still_none made m h none = record { gave = gave_none journal made m none.gave ∙ h.gave; showed = showed_none journal made m none.showed ∙ h.showed }

  -- a pair stays, where the same waits for it
  pub pair_stays : (made : List JournalEvent) (k c d : ℕ) (x y : End) (after : List Posted) → ((m : ℕ) → HasNoUnits made m) → waiting k true after ≡ waiting k true queue → waiting k false after ≡ waiting k false queue
      → Running journal now c d x y (waiting k true queue) (waiting k false queue) → Running (journal ++ made) now c d x y (waiting k true after) (waiting k false after)
  pair_stays made k c d x y after silent forth back was =
      subst (λ (l : List Sent). Running (journal ++ made) now c d x y l (waiting k false after)) (sym forth)
      (subst (λ (l : List Sent). Running (journal ++ made) now c d x y (waiting k true queue) l) (sym back)
      (stays journal made now c d x y (waiting k true queue) (waiting k false queue) was (silent c) (silent d)))

  -- where the calling end waits for its answer, a called end was not made
  pub still_uncalled : (system reference k : ℕ) (b : Association) (x : End) → IsFree now all system reference → slice_get (map (cleared system reference) all) k ≡ Some b → b.calling ≡ Some x → b.called ≡ None
      → IsYoung x.stage → number k false ≡ None
  still_uncalled system reference k b x free at x_is none young =
      let h = map_got (cleared system reference) all k b at in
      let was : h.0.calling ≡ Some x = (left_party system reference h.0 true x (subst (λ (c : Association). party c true ≡ Some x) h.2 x_is)).was in
      elim (cleared_called system reference h.0 (ap (λ (c : Association). c.called) (sym h.2) ∙ none)) [
        | inl before ↦ t.uncalled k h.0 x h.1 was before young
        | inr freed ↦ absurd (free k h.0 freed.end h.1 freed.was freed.system_is freed.reference_is (t.held k h.0 x freed.end h.1 was freed.was young))
      ]

  -- ---- a connect

  module _ (system reference : ℕ) (a : Association) (x : End) (from : a.from ≡ record { system = system; reference = reference }) (uncalled : a.called ≡ None) (calling : a.calling ≡ Some x)
      (own : x.base.own ≡ reference) (halves : AreOwn x) (rest : List JournalEvent) (request : Request) (none : MakesNone rest) (silent : (m : ℕ) → HasNoUnits (events.Connect request ∷ rest) m)
      (calling_is : request.calling ≡ own_address system) (reference_is : request.reference ≡ reference) (end_is : request.end ≡ length ends + 1)
      (others : (k : ℕ) (b : Association) (y : End) → slice_get all k ≡ Some b → b.calling ≡ Some y → own_address b.from.system ≡ own_address system → b.from.reference ≡ reference
      → (b.from.system ≡ system) × (y.base.own ≡ reference))
      (after : List Posted) (elsewhere : (k : ℕ) (by : Bool) → k < length all → waiting k by after ≡ waiting k by queue) (free : IsFree now all system reference) where
    abbrev made : List JournalEvent
    made = events.Connect request ∷ rest

    abbrev new : List Association
    new = map (cleared system reference) all ++ a ∷ []

    abbrev numbers : Numbers
    numbers = with_caller number (length all) (length ends + 1)

    was_number : (k : ℕ) (by : Bool) (m : ℕ) → k < length all → numbers k by ≡ Some m → number k by ≡ Some m
    was_number k by m low is = sym (number_there k (length all) (if by then Some (length ends + 1) else None) (number k by) (λ same. omega (arith, low, same))) ∙ is

    owns_then : (k : ℕ) (b : Association) (by : Bool) (end : End) → (slice_get (map (cleared system reference) all) k ≡ Some b) ⊎ ((k ≡ length (map (cleared system reference) all)) × (b ≡ a)) → party b by ≡ Some end
        → AreOwn end
    owns_then k b by end (inl at) is = let w = was_there all system reference k b by end at is in t.owns k w.a by end w.is w.end_is
    owns_then k b true end (inr last) is =
        subst AreOwn (some_same x end (sym calling ∙ (ap (λ (c : Association). c.calling) (sym last.1) ∙ is))) halves
    owns_then k b false end (inr last) is = absurd (none_some end (sym uncalled ∙ (ap (λ (c : Association). c.called) (sym last.1) ∙ is)))

    young_then : (k : ℕ) (b : Association) (by : Bool) (end : End) (m : ℕ) → (slice_get (map (cleared system reference) all) k ≡ Some b) ⊎ ((k ≡ length (map (cleared system reference) all)) × (b ≡ a))
        → party b by ≡ Some end → IsYoung end.stage → numbers k by ≡ Some m → HasNoUnits (journal ++ made) m
    young_then k b by end m (inl at) is young m_is =
        let w = was_there all system reference k b by end at is in
        let low = slice_get_within all k w.a w.is in
        still_none made m (t.young k w.a by end m w.is w.end_is young (was_number k by m low m_is)) (silent m)
    young_then k b true end m (inr last) is young m_is =
        let at : k ≡ length all = last.0 ∙ length_map (cleared system reference) all in
        let first : numbers (length all) true ≡ Some (length ends + 1) = number_here (length all) (Some (length ends + 1)) (number (length all) true) in
        let same : length ends + 1 ≡ m = some_same (length ends + 1) m (sym first ∙ (ap (λ (j : ℕ). numbers j true) (sym at) ∙ m_is)) in
        still_none made m (subst (HasNoUnits journal) same (t.unused (length ends + 1) (omega arith))) (silent m)
    young_then k b false end m (inr last) is young m_is = absurd (none_some end (sym uncalled ∙ (ap (λ (c : Association). c.called) (sym last.1) ∙ is)))

    pairs_then : (k : ℕ) (b : Association) (one two : End) (c d : ℕ) → (slice_get (map (cleared system reference) all) k ≡ Some b) ⊎ ((k ≡ length (map (cleared system reference) all)) × (b ≡ a)) → b.calling ≡ Some one
        → b.called ≡ Some two → numbers k true ≡ Some c → numbers k false ≡ Some d → AreOpening one two → Running (journal ++ made) now c d one two (waiting k true after) (waiting k false after)
    pairs_then k b one two c d (inl at) one_is two_is c_is d_is opening =
        let w = both_there all system reference k b one two at one_is two_is in
        let low = slice_get_within all k w.0 w.1 in
        pair_stays made k c d one two after silent (elsewhere k true low) (elsewhere k false low)
        (t.pairs k w.0 one two c d w.1 w.2 w.3 (was_number k true c low c_is) (was_number k false d low d_is) opening)
    pairs_then k b one two c d (inr last) one_is two_is c_is d_is opening = absurd (none_some two (sym uncalled ∙ (ap (λ (e : Association). e.called) (sym last.1) ∙ two_is)))

    uncalled_then : (k : ℕ) (b : Association) (one : End) → (slice_get (map (cleared system reference) all) k ≡ Some b) ⊎ ((k ≡ length (map (cleared system reference) all)) × (b ≡ a)) → b.calling ≡ Some one
        → b.called ≡ None → IsYoung one.stage → numbers k false ≡ None
    uncalled_then k b one (inl at) one_is gone young =
        let low = slice_get_within all k (map_got (cleared system reference) all k b at).0 (map_got (cleared system reference) all k b at).1 in
        number_there k (length all) None (number k false) (λ same. omega (arith, low, same)) ∙ still_uncalled system reference k b one free at one_is gone young
    uncalled_then k b one (inr last) one_is gone young =
        ap (λ (j : ℕ). numbers j false) (last.0 ∙ length_map (cleared system reference) all) ∙ number_here (length all) None (number (length all) false)

    held_then : (k : ℕ) (b : Association) (one two : End) → (slice_get (map (cleared system reference) all) k ≡ Some b) ⊎ ((k ≡ length (map (cleared system reference) all)) × (b ≡ a)) → b.calling ≡ Some one
        → b.called ≡ Some two → IsYoung one.stage → IsInUse now two
    held_then k b one two (inl at) one_is two_is young = let w = both_there all system reference k b one two at one_is two_is in t.held k w.0 one two w.1 w.2 w.3 young
    held_then k b one two (inr last) one_is two_is young = absurd (none_some two (sym uncalled ∙ (ap (λ (e : Association). e.called) (sym last.1) ∙ two_is)))

    uncalling_then : (k : ℕ) (b : Association) (two : End) (r : InCrWait) → (slice_get (map (cleared system reference) all) k ≡ Some b) ⊎ ((k ≡ length (map (cleared system reference) all)) × (b ≡ a)) → b.called ≡ Some two
        → two.stage ≡ CrWait r → ⊥
    uncalling_then k b two r (inl at) two_is stage = let w = was_there all system reference k b false two at two_is in t.uncalling k w.a two r w.is w.end_is stage
    uncalling_then k b two r (inr last) two_is stage = none_some two (sym uncalled ∙ (ap (λ (e : Association). e.called) (sym last.1) ∙ two_is))

    pub tells_connected : Tells Running own_address now (ends ++ record { system = system; reference = reference } ∷ []) new after numbers (journal ++ made)
    tells_connected = record {
      numbered = numbered_connect ends all number system reference a x t.numbered from uncalled calling own;
      linked =
          linked_connect ends all number system reference a x t.numbered from uncalled calling own own_address journal rest request t.linked none calling_is reference_is end_is others;
      owns = λ k b by end at is. owns_then k b by end (get_behind (map (cleared system reference) all) a k b at) is;
      young = λ k b by end m at is young m_is. young_then k b by end m (get_behind (map (cleared system reference) all) a k b at) is young m_is;
      pairs = λ k b one two c d at one_is two_is c_is d_is opening.
          pairs_then k b one two c d (get_behind (map (cleared system reference) all) a k b at) one_is two_is c_is d_is opening;
      unused = λ m above.
          still_none made m (t.unused m (omega (arith, above, one_more ends (record { system = system; reference = reference })))) (silent m);
      uncalled = λ k b one at one_is gone young. uncalled_then k b one (get_behind (map (cleared system reference) all) a k b at) one_is gone young;
      held = λ k b one two at one_is two_is young. held_then k b one two (get_behind (map (cleared system reference) all) a k b at) one_is two_is young;
      uncalling = λ k b two r at two_is stage. uncalling_then k b two r (get_behind (map (cleared system reference) all) a k b at) two_is stage;
    }
