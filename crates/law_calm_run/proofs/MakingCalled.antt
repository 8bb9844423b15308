-- A CR that is handed over makes the called end of its association: it has the next number and no units yet, and each pair stays. The reference that it is
-- given is no other end's that has to keep it.
use Rattle.std.proofs.Common.{◌≡◌, ◌≢◌, ℕ, ◌+◌, Bool, true, false, if◌then◌else◌, List, [], ◌∷◌, ◌++◌, length, map, slice_get, slice_set, Some, None, refl, sym, ◌∙◌, ap, subst, inl, inr, arith}
use Rattle.std.proofs.lemmas.Bool.{cases_eq}
use Rattle.script_journal.specs.declared.event.Event.{Event as JournalEvent}
use Rattle.script_journal.specs.declared.event.Event.TheVariants as events
use Rattle.script_journal.specs.declared.event.Indication.{Indication}
use Rattle.tp4_flow.specs.declared.step.Sent.{Sent}
use Rattle.tp4_conn.specs.End.{End}
use Rattle.tp4_conn.specs.declared.end_record.EndRecord.{EndRecord}
use Rattle.tp4_conn.specs.declared.states.InCrWait.{InCrWait}
use Rattle.tp4_conn.specs.declared.states.StateData.{StateData}
use Rattle.tp4_conn.specs.declared.states.StateData.TheVariants as stages
use Rattle.law_tp4_history.specs.Journals.{MakesNone}
use Rattle.tp4_world.specs.declared.place.EndAt.{EndAt}
use Rattle.law_tp4_associations.specs.Association.{Association, Posted, cleared, party, waiting}
use Rattle.law_tp4_associations.specs.Phase.{IsInUse}
use Rattle.law_calm_run.proofs.Story.{AreOpening, AreOwn, HasNoUnits, IsYoung, Numbers, Runs, Tells}
use Rattle.law_calm_run.proofs.Continuing.{get_set_other, get_set_same, map_get, none_some, some_same}
use Rattle.law_calm_run.proofs.Numbering.{number_here, number_there, one_more}
use Rattle.law_calm_run.proofs.NumberingCalled.{linked_begins, numbered_begins, with_called}
use Rattle.law_calm_run.proofs.Making.{IsFree, both_there, pair_stays, still_none, still_uncalled, was_there}

-- the reference of an end that waits for an answer is not free
young_held : (now : ℕ) (b : EndRecord) (stage : StateData) → IsYoung stage → IsInUse now (record { base = b; stage = stage })
young_held now b (stages.CrWait w) young = refl
young_held now b (stages.UserWait since) young = refl
young_held now b stage young = absurd young

user_waits : (since : ℕ) (r : InCrWait) → stages.UserWait since ≡ stages.CrWait r → ⊥
user_waits since r is = cc is

module _ (Running : Runs) (stays : (journal made : List JournalEvent) (now c d : ℕ) (x y : End) (forth back : List Sent) → Running journal now c d x y forth back → HasNoUnits made c → HasNoUnits made d
    → Running (journal ++ made) now c d x y forth back)
    (own_address : ℕ → List ℕ) (now : ℕ) (ends : List EndAt) (all : List Association) (queue : List Posted) (number : Numbers) (journal : List JournalEvent)
    (t : Tells Running own_address now ends all queue number journal) where
  module _ (reference k : ℕ) (a : Association) (x y : End) (at_k : slice_get all k ≡ Some a) (calling : a.calling ≡ Some x) (own : y.base.own ≡ reference)
      (apart : a.from.system ≡ a.to → x.base.own ≡ reference → ⊥) (halves : AreOwn y) (since : ℕ) (waits : y.stage ≡ stages.UserWait since) (uncalled : number k false ≡ None) (rest : List JournalEvent) (indication : Indication)
      (none : MakesNone rest) (silent : (m : ℕ) → HasNoUnits (events.Incoming indication ∷ rest) m) (calling_is : indication.calling ≡ own_address a.from.system)
      (partner_is : indication.partner ≡ a.from.reference) (end_is : indication.end ≡ length ends + 1)
      (after : List Posted) (elsewhere : (j : ℕ) (by : Bool) → j ≢ k → waiting j by after ≡ waiting j by queue) (free : IsFree now all a.to reference) where
    abbrev made : List JournalEvent
    made = events.Incoming indication ∷ rest

    abbrev both : Association
    both = record a { called = Some y }

    abbrev old : List Association
    old = map (cleared a.to reference) all

    abbrev new : List Association
    new = slice_set old k both

    abbrev numbers : Numbers
    numbers = with_called number k (length ends + 1)

    here : (j : ℕ) (b : Association) → slice_get new j ≡ Some b → j ≡ k → b ≡ both
    here j b at same =
        some_same b both (sym at ∙ (ap (slice_get new) same ∙ get_set_same old k both (cleared a.to reference a) (map_get (cleared a.to reference) all k a at_k)))

    there : (j : ℕ) (b : Association) → slice_get new j ≡ Some b → j ≢ k → slice_get old j ≡ Some b
    there j b at other = sym (get_set_other old k j both other) ∙ at

    was_number : (j : ℕ) (by : Bool) (m : ℕ) → j ≢ k → numbers j by ≡ Some m → number j by ≡ Some m
    was_number j by m other is = sym (number_there j k (if by then number j true else Some (length ends + 1)) (number j by) other) ∙ is

    called_number : (m : ℕ) → numbers k false ≡ Some m → length ends + 1 ≡ m
    called_number m is = some_same (length ends + 1) m (sym (number_here k (Some (length ends + 1)) (number k false)) ∙ is)

    caller_number : (m : ℕ) → numbers k true ≡ Some m → number k true ≡ Some m
    caller_number m is = sym (number_here k (number k true) (number k true)) ∙ is

    owns_here : (by : Bool) (end : End) → party both by ≡ Some end → AreOwn end
    owns_here true end is = t.owns k a true end at_k is
    owns_here false end is = subst AreOwn (some_same y end is) halves

    owns_then : (j : ℕ) (b : Association) (by : Bool) (end : End) → slice_get new j ≡ Some b → party b by ≡ Some end → AreOwn end
    owns_then j b by end at is = elim (cases_eq j k) [
      | inl same ↦ owns_here by end (subst (λ (c : Association). party c by ≡ Some end) (here j b at same) is)
      | inr other ↦ let w = was_there all a.to reference j b by end (there j b at other) is in t.owns j w.a by end w.is w.end_is
    ]

    young_here : (by : Bool) (end : End) (m : ℕ) → party both by ≡ Some end → IsYoung end.stage → numbers k by ≡ Some m → HasNoUnits (journal ++ made) m
    young_here true end m is young m_is = still_none Running stays own_address now ends all queue number journal t made m (t.young k a true end m at_k is young (caller_number m m_is)) (silent m)
    young_here false end m is young m_is = still_none Running stays own_address now ends all queue number journal t made m (subst (HasNoUnits journal) (called_number m m_is) (t.unused (length ends + 1) (omega arith))) (silent m)

    young_then : (j : ℕ) (b : Association) (by : Bool) (end : End) (m : ℕ) → slice_get new j ≡ Some b → party b by ≡ Some end → IsYoung end.stage → numbers j by ≡ Some m → HasNoUnits (journal ++ made) m
    young_then j b by end m at is young m_is = elim (cases_eq j k) [
      | inl same ↦
          young_here by end m (subst (λ (c : Association). party c by ≡ Some end) (here j b at same) is) young (ap (λ (i : ℕ). numbers i by) (sym same) ∙ m_is)
      | inr other ↦
          let w = was_there all a.to reference j b by end (there j b at other) is in
          still_none Running stays own_address now ends all queue number journal t made m (t.young j w.a by end m w.is w.end_is young (was_number j by m other m_is)) (silent m)
    ]

    pairs_then : (j : ℕ) (b : Association) (one two : End) (c d : ℕ) → slice_get new j ≡ Some b → b.calling ≡ Some one → b.called ≡ Some two → numbers j true ≡ Some c → numbers j false ≡ Some d
        → AreOpening one two → Running (journal ++ made) now c d one two (waiting j true after) (waiting j false after)
    pairs_then j b one two c d at one_is two_is c_is d_is opening = elim (cases_eq j k) [
      | inl same ↦
          let y_is : y ≡ two = some_same y two (ap (λ (e : Association). e.called) (sym (here j b at same)) ∙ two_is) in
          absurd (opening.answered (subst (λ (e : End). IsYoung e.stage) y_is (subst IsYoung (sym waits) tt)))
      | inr other ↦
          let w = both_there all a.to reference j b one two (there j b at other) one_is two_is in
          pair_stays Running stays own_address now ends all queue number journal t made j c d one two after silent (elsewhere j true other) (elsewhere j false other)
          (t.pairs j w.0 one two c d w.1 w.2 w.3 (was_number j true c other c_is) (was_number j false d other d_is) opening)
    ]

    uncalled_then : (j : ℕ) (b : Association) (one : End) → slice_get new j ≡ Some b → b.calling ≡ Some one → b.called ≡ None → IsYoung one.stage → numbers j false ≡ None
    uncalled_then j b one at one_is gone young = elim (cases_eq j k) [
      | inl same ↦ absurd (none_some y (sym gone ∙ ap (λ (e : Association). e.called) (here j b at same)))
      | inr other ↦
          number_there j k (Some (length ends + 1)) (number j false) other
          ∙ still_uncalled Running stays own_address now ends all queue number journal t a.to reference j b one free (there j b at other) one_is gone young
    ]

    held_then : (j : ℕ) (b : Association) (one two : End) → slice_get new j ≡ Some b → b.calling ≡ Some one → b.called ≡ Some two → IsYoung one.stage → IsInUse now two
    held_then j b one two at one_is two_is young = elim (cases_eq j k) [
      | inl same ↦
          let y_is : y ≡ two = some_same y two (ap (λ (e : Association). e.called) (sym (here j b at same)) ∙ two_is) in
          subst (IsInUse now) y_is (young_held now y.base y.stage (subst IsYoung (sym waits) tt))
      | inr other ↦ let w = both_there all a.to reference j b one two (there j b at other) one_is two_is in t.held j w.0 one two w.1 w.2 w.3 young
    ]

    uncalling_then : (j : ℕ) (b : Association) (two : End) (r : InCrWait) → slice_get new j ≡ Some b → b.called ≡ Some two → two.stage ≡ stages.CrWait r → ⊥
    uncalling_then j b two r at two_is stage = elim (cases_eq j k) [
      | inl same ↦
          let y_is : y ≡ two = some_same y two (ap (λ (e : Association). e.called) (sym (here j b at same)) ∙ two_is) in
          user_waits since r (sym waits ∙ ap (λ (e : End). e.stage) y_is ∙ stage)
      | inr other ↦ let w = was_there all a.to reference j b false two (there j b at other) two_is in t.uncalling j w.a two r w.is w.end_is stage
    ]

    pub tells_begun : Tells Running own_address now (ends ++ record { system = a.to; reference = reference } ∷ []) new after numbers (journal ++ made)
    tells_begun = record {
      numbered = numbered_begins ends all number reference k a x y t.numbered at_k calling own apart;
      linked =
          linked_begins ends all number reference k a x y t.numbered at_k calling own apart own_address journal rest indication t.linked none uncalled calling_is partner_is end_is;
      owns = owns_then;
      young = young_then;
      pairs = pairs_then;
      unused = λ m above.
          still_none Running stays own_address now ends all queue number journal t made m (t.unused m (omega (arith, above, one_more ends (record { system = a.to; reference = reference })))) (silent m);
      uncalled = uncalled_then;
      held = held_then;
      uncalling = uncalling_then;
    }
