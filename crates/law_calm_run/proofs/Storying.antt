-- An end of an association acts: the numbers stay, no other number has units, and but for its own pair each pair stays.
use Rattle.std.proofs.Common.{◌≡◌, ◌≢◌, ◌⊎◌, ◌<◌, ℕ, Bool, true, false, List, ◌++◌, length, slice_get, slice_set, Option, Some, None, refl, sym, ◌∙◌, ap, subst, inl, inr, arith}
use Rattle.std.proofs.lemmas.Bool.{cases_eq}
use Rattle.std.proofs.lemmas.Option.{slice_get_within}
use Rattle.script_journal.specs.declared.event.Event.{Event as JournalEvent}
use Rattle.tp4_number.specs.Number.{whole}
use Rattle.tp4_flow.specs.declared.step.Sent.{Sent}
use Rattle.tp4_conn.specs.End.{End, Moved, end_of}
use Rattle.tp4_conn.specs.Table.{Event, stepped}
use Rattle.tp4_conn.specs.declared.states.InCrWait.{InCrWait}
use Rattle.tp4_conn.specs.declared.states.StateData.TheVariants.{CrWait}
use Rattle.law_tp4_history.specs.Journals.{MakesNone}
use Rattle.law_tp4_history.specs.Lines.{given, shown_in}
use Rattle.tp4_world.specs.declared.place.EndAt.{EndAt}
use Rattle.law_tp4_associations.specs.Association.{Association, Posted, party, waiting, with_party}
use Rattle.law_tp4_associations.specs.Phase.{IsInUse}
use Rattle.law_tp4_associations.proofs.Holding.{held_on}
use Rattle.law_calm_run.proofs.Story.{AreLinked, AreOpening, AreOwn, HasNoUnits, IsLatestOf, IsYoung, Numbers, Runs, Tells}
use Rattle.law_calm_run.proofs.Continuing.{AllContinue, get_set_other, get_set_same, numbered_on, party_continues, set_continues, some_same, with_from, with_to}
use Rattle.law_calm_run.proofs.Pairing.{gave_none, showed_none}
use Rattle.law_calm_run.proofs.Partners.{latest_more, partner_back}
use Rattle.law_calm_run.proofs.Rows.{row_own, row_same}
use Rattle.law_calm_run.proofs.Young.{IsAllowed, row_calls, row_young}
use Rattle.law_calm_run.proofs.Telling.{ActsIn}

-- ---- the journal

pub latest_of_more : (journal made : List JournalEvent) (address : List ℕ) (reference : ℕ) (number : Option ℕ) → MakesNone made → IsLatestOf journal address reference number → IsLatestOf (journal ++ made) address reference number
latest_of_more journal made address reference number none l = record {
  place = l.place;
  asked = l.asked;
  latest_is = latest_more journal made l.place address reference l.asked none l.latest_is;
  number_is = l.number_is;
}

pub linked_on : (own : ℕ → List ℕ) (journal made : List JournalEvent) (old new : List Association) (number : Numbers) → AreLinked own journal old number → AllContinue old new → MakesNone made
    → AreLinked own (journal ++ made) new number
linked_on own journal made old new number l c none = record {
  partners = λ p q heard asked part.
      let h = l.partners p q heard asked (partner_back journal made none p q heard asked part) in
      (h.0, subst (λ (n : ℕ). h.0 < n) (sym c.length_is) h.1, h.2, h.3);
  latest_is = λ k b x at is.
      let h = c.each k b at in
      let was = h.parties true x is in
      latest_of_more journal made (own b.from.system) b.from.reference (number k true) none
      (subst (λ (e : EndAt). IsLatestOf journal (own e.system) e.reference (number k true)) (sym h.from) (l.latest_is k h.a was.0 h.is was.1));
}

-- ---- an end

-- a party of the association as it is now: the one that acted, or another one as it was
pub party_cases : (a : Association) (by : Bool) (place : Option End) (other : Bool) (end : End) → party (with_party a by place) other ≡ Some end
    → ((other ≡ by) × (place ≡ Some end)) ⊎ ((other ≡ by → ⊥) × (party a other ≡ Some end))
party_cases a true place true end at = inl (refl, at)
party_cases a true place false end at = inr (λ is. absurd cc, at)
party_cases a false place true end at = inr (λ is. absurd cc, at)
party_cases a false place false end at = inl (refl, at)

-- no called end stands as it is now: none stood, or it was taken out
called_cases : (a : Association) (by : Bool) (place : Option End) → (with_party a by place).called ≡ None → (a.called ≡ None) ⊎ ((by ≡ false) × (place ≡ None))
called_cases a true place is = inl is
called_cases a false place is = inr (refl, is)

differ : true ≡ false → ⊥
differ e = cc e

module _ (Running : Runs) (stays : (journal made : List JournalEvent) (now c d : ℕ) (x y : End) (forth back : List Sent) → Running journal now c d x y forth back → HasNoUnits made c → HasNoUnits made d
    → Running (journal ++ made) now c d x y forth back)
    (own : ℕ → List ℕ) (now : ℕ) (ends : List EndAt) (all : List Association) (queue : List Posted) (number : Numbers) (journal : List JournalEvent) (t : Tells Running own now ends all queue number journal) where
  -- a number that is not that of the end at k
  other_number : (k j : ℕ) (a b : Association) (by other : Bool) (n m : ℕ) → slice_get all k ≡ Some a → slice_get all j ≡ Some b → number k by ≡ Some n → number j other ≡ Some m
      → ((j ≡ k) × (other ≡ by) → ⊥) → m ≢ n
  other_number k j a b by other n m is at n_is m_is apart same =
      apart (t.numbered.one j k other by n (slice_get_within all j b at) (slice_get_within all k a is) (m_is ∙ ap (λ (i : ℕ). Some i) same) n_is)

  none_made : (n m : ℕ) (made : List JournalEvent) (event : Event) (mv : Moved) → ActsIn n made (given event) (shown_in mv.events) mv.events → m ≢ n → HasNoUnits made m
  none_made n m made event mv a apart = record { gave = a.other_gave m apart; showed = a.other_showed m apart }

  more_none : (m : ℕ) (made : List JournalEvent) → HasNoUnits journal m → HasNoUnits made m → HasNoUnits (journal ++ made) m
  more_none m made h none = record { gave = gave_none journal made m none.gave ∙ h.gave; showed = showed_none journal made m none.showed ∙ h.showed }

  module _ (k : ℕ) (a : Association) (by : Bool) (end : End) (n : ℕ) (is : slice_get all k ≡ Some a) (end_is : party a by ≡ Some end) (n_is : number k by ≡ Some n)
      (event : Event) (allowed : IsAllowed end event) (place : Option End) (place_is : (e : End) → place ≡ Some e → e ≡ end_of (stepped whole now end event))
      (lost : by ≡ false → place ≡ None → IsInUse now (end_of (stepped whole now end event)) → ⊥)
      (made : List JournalEvent) (acts : ActsIn n made (given event) (shown_in (stepped whole now end event).events) (stepped whole now end event).events)
      (after : List Posted) (others : (j : ℕ) (side : Bool) → j ≢ k → waiting j side after ≡ waiting j side queue)
      (pair : (x y : End) (c d : ℕ) → (with_party a by place).calling ≡ Some x → (with_party a by place).called ≡ Some y → number k true ≡ Some c → number k false ≡ Some d → AreOpening x y
      → Running (journal ++ made) now c d x y (waiting k true after) (waiting k false after)) where
    abbrev m : Moved
    m = stepped whole now end event

    abbrev b : Association
    b = with_party a by place

    abbrev new : List Association
    new = slice_set all k b

    continues : AllContinue all new
    continues = set_continues all k a b is (with_from a by place) (with_to a by place)
        (party_continues a by end place end_is (λ e e_is. ap (λ (x : End). x.base.own) (place_is e e_is) ∙ row_same now end event (t.owns k a by end is end_is)))

    here : (c : Association) → slice_get new k ≡ Some c → c ≡ b
    here c at = sym (some_same b c (sym (get_set_same all k b a is) ∙ at))

    there : (j : ℕ) (c : Association) → j ≢ k → slice_get new j ≡ Some c → slice_get all j ≡ Some c
    there j c apart at = sym (get_set_other all k j b apart) ∙ at

    owns_then : (j : ℕ) (c : Association) (other : Bool) (e : End) → slice_get new j ≡ Some c → party c other ≡ Some e → AreOwn e
    owns_then j c other e at e_is = elim (cases_eq j k) [
      | inl same ↦ elim (party_cases a by place other e (subst (λ (x : Association). party x other ≡ Some e) (here c (ap (slice_get new) (sym same) ∙ at)) e_is)) [
        | inl acted ↦ subst AreOwn (sym (place_is e acted.1)) (row_own now end event (t.owns k a by end is end_is))
        | inr was ↦ t.owns k a other e is was.1
      ]
      | inr apart ↦ t.owns j c other e (there j c apart at) e_is
    ]

    young_then : (j : ℕ) (c : Association) (other : Bool) (e : End) (i : ℕ) → slice_get new j ≡ Some c → party c other ≡ Some e → IsYoung e.stage → number j other ≡ Some i → HasNoUnits (journal ++ made) i
    young_then j c other e i at e_is young i_is = elim (cases_eq j k) [
      | inl same ↦ elim (party_cases a by place other e (subst (λ (x : Association). party x other ≡ Some e) (here c (ap (slice_get new) (sym same) ∙ at)) e_is)) [
        | inl acted ↦
            let row = row_young now end event (subst (λ (x : End). IsYoung x.stage) (place_is e acted.1) young) allowed in
            let i_n : i ≡ n = some_same i n (sym i_is ∙ ap (λ (l : ℕ). number l other) same ∙ ap (number k) acted.0 ∙ n_is) in
            let was : HasNoUnits journal n = t.young k a by end n is end_is row.0 n_is in
            subst (HasNoUnits (journal ++ made)) (sym i_n) (more_none n made was (record { gave = acts.own_gave ∙ row.1; showed = acts.own_showed ∙ row.2 }))
        | inr was ↦
            let k_is : number k other ≡ Some i = ap (λ (l : ℕ). number l other) (sym same) ∙ i_is in
            let apart : i ≢ n = other_number k k a a by other n i is is n_is k_is (λ both. was.0 both.1) in
            more_none i made (t.young k a other e i is was.1 young k_is) (none_made n i made event m acts apart)
      ]
      | inr apart ↦
          let differ : i ≢ n = other_number k j a c by other n i is (there j c apart at) n_is i_is (λ both. apart both.0) in
          more_none i made (t.young j c other e i (there j c apart at) e_is young i_is) (none_made n i made event m acts differ)
    ]

    pairs_then : (j : ℕ) (c : Association) (x y : End) (one two : ℕ) → slice_get new j ≡ Some c → c.calling ≡ Some x → c.called ≡ Some y → number j true ≡ Some one → number j false ≡ Some two → AreOpening x y
        → Running (journal ++ made) now one two x y (waiting j true after) (waiting j false after)
    pairs_then j c x y one two at x_is y_is one_is two_is opening = elim (cases_eq j k) [
      | inl same ↦
          let c_is : c ≡ b = here c (ap (slice_get new) (sym same) ∙ at) in
          subst (λ (l : ℕ). Running (journal ++ made) now one two x y (waiting l true after) (waiting l false after)) (sym same)
          (pair x y one two (ap (λ (z : Association). z.calling) (sym c_is) ∙ x_is) (ap (λ (z : Association). z.called) (sym c_is) ∙ y_is)
          (ap (λ (l : ℕ). number l true) (sym same) ∙ one_is) (ap (λ (l : ℕ). number l false) (sym same) ∙ two_is) opening)
      | inr apart ↦
          let c_at = there j c apart at in
          let was = t.pairs j c x y one two c_at x_is y_is one_is two_is opening in
          let first : one ≢ n = other_number k j a c by true n one is c_at n_is one_is (λ both. apart both.0) in
          let second : two ≢ n = other_number k j a c by false n two is c_at n_is two_is (λ both. apart both.0) in
          subst (λ (l : List Sent). Running (journal ++ made) now one two x y l (waiting j false after)) (sym (others j true apart))
          (subst (λ (l : List Sent). Running (journal ++ made) now one two x y (waiting j true queue) l) (sym (others j false apart))
          (stays journal made now one two x y (waiting j true queue) (waiting j false queue) was (none_made n one made event m acts first) (none_made n two made event m acts second)))
    ]

    unused_then : (j : ℕ) → length ends < j → HasNoUnits (journal ++ made) j
    unused_then j above =
        let low = t.numbered.low k by n (slice_get_within all k a is) n_is in
        more_none j made (t.unused j above) (none_made n j made event m acts (λ same. omega (arith, above, low, same)))

    end_at_side : (side : Bool) → side ≡ by → party a side ≡ Some end
    end_at_side side same = ap (party a) same ∙ end_is

    still_young : (x : End) → place ≡ Some x → IsYoung x.stage → IsYoung end.stage
    still_young x x_is young = (row_young now end event (subst (λ (e : End). IsYoung e.stage) (place_is x x_is) young) allowed).0

    uncalled_here : (x : End) → party b true ≡ Some x → b.called ≡ None → IsYoung x.stage → number k false ≡ None
    uncalled_here x x_is none young = elim (called_cases a by place none) [
      | inl before ↦ elim (party_cases a by place true x x_is) [
        | inl acted ↦ t.uncalled k a end is (end_at_side true acted.0) before (still_young x acted.1 young)
        | inr was ↦ t.uncalled k a x is was.1 before young
      ]
      | inr out ↦ elim (party_cases a by place true x x_is) [
        | inl acted ↦ absurd (differ (acted.0 ∙ out.0))
        | inr was ↦ absurd (lost out.0 out.1 (held_on now end event (t.held k a x end is was.1 (end_at_side false (sym out.0)) young)))
      ]
    ]

    held_here : (x y : End) → party b true ≡ Some x → party b false ≡ Some y → IsYoung x.stage → IsInUse now y
    held_here x y x_is y_is young = elim (party_cases a by place true x x_is) [
      | inl acted ↦ elim (party_cases a by place false y y_is) [
        | inl both ↦ absurd (differ (acted.0 ∙ sym both.0))
        | inr other ↦ t.held k a end y is (end_at_side true acted.0) other.1 (still_young x acted.1 young)
      ]
      | inr was ↦ elim (party_cases a by place false y y_is) [
        | inl acted ↦ subst (IsInUse now) (sym (place_is y acted.1)) (held_on now end event (t.held k a x end is was.1 (end_at_side false acted.0) young))
        | inr other ↦ t.held k a x y is was.1 other.1 young
      ]
    ]

    uncalled_then : (j : ℕ) (c : Association) (x : End) → slice_get new j ≡ Some c → c.calling ≡ Some x → c.called ≡ None → IsYoung x.stage → number j false ≡ None
    uncalled_then j c x at x_is none young = elim (cases_eq j k) [
      | inl same ↦
          let c_is : c ≡ b = here c (ap (slice_get new) (sym same) ∙ at) in
          ap (λ (l : ℕ). number l false) same ∙ uncalled_here x (ap (λ (z : Association). party z true) (sym c_is) ∙ x_is) (ap (λ (z : Association). z.called) (sym c_is) ∙ none) young
      | inr apart ↦ t.uncalled j c x (there j c apart at) x_is none young
    ]

    held_then : (j : ℕ) (c : Association) (x y : End) → slice_get new j ≡ Some c → c.calling ≡ Some x → c.called ≡ Some y → IsYoung x.stage → IsInUse now y
    held_then j c x y at x_is y_is young = elim (cases_eq j k) [
      | inl same ↦
          let c_is : c ≡ b = here c (ap (slice_get new) (sym same) ∙ at) in
          held_here x y (ap (λ (z : Association). party z true) (sym c_is) ∙ x_is) (ap (λ (z : Association). party z false) (sym c_is) ∙ y_is) young
      | inr apart ↦ t.held j c x y (there j c apart at) x_is y_is young
    ]

    uncalling_then : (j : ℕ) (c : Association) (y : End) (r : InCrWait) → slice_get new j ≡ Some c → c.called ≡ Some y → y.stage ≡ CrWait r → ⊥
    uncalling_then j c y r at y_is waits = elim (cases_eq j k) [
      | inl same ↦
          let c_is : c ≡ b = here c (ap (slice_get new) (sym same) ∙ at) in
          elim (party_cases a by place false y (ap (λ (z : Association). party z false) (sym c_is) ∙ y_is)) [
            | inl acted ↦
                let before = row_calls now end event r (ap (λ (e : End). e.stage) (sym (place_is y acted.1)) ∙ waits) in
                t.uncalling k a end before.0 is (end_at_side false acted.0) before.1
            | inr was ↦ t.uncalling k a y r is was.1 waits
          ]
      | inr apart ↦ t.uncalling j c y r (there j c apart at) y_is waits
    ]

    pub tells_acted : Tells Running own now ends new after number (journal ++ made)
    tells_acted = record {
      numbered = numbered_on ends all new number t.numbered continues;
      linked = linked_on own journal made all new number t.linked continues acts.none;
      owns = owns_then;
      young = young_then;
      pairs = pairs_then;
      unused = unused_then;
      uncalled = uncalled_then;
      held = held_then;
      uncalling = uncalling_then;
    }
