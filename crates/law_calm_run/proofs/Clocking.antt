-- The clock goes on, where nothing waits; then each end ticks, or not, one after another; and where no end is due any more, each pair has gone on by its tick.
use Rattle.std.proofs.Common.{◌≡◌, ◌≢◌, ℕ, ◌+◌, true, false, List, [], ◌++◌, slice_get, slice_set, Option, Some, None, sym, ◌∙◌, ap, subst}
use Rattle.std.proofs.lemmas.List.{append-nil}
use Rattle.std.proofs.lemmas.Option.{slice_get_within}
use Rattle.script_journal.specs.declared.event.Event.{Event as JournalEvent}
use Rattle.tp4_number.specs.Number.{whole}
use Rattle.tp4_flow.specs.declared.step.Sent.{Sent}
use Rattle.tp4_conn.specs.End.{End, Moved, end_of}
use Rattle.tp4_conn.specs.Table.{Called, Ticked, stepped}
use Rattle.tp4_conn.specs.declared.call.UserCall.{UserCall}
use Rattle.tp4_conn.specs.declared.call.UserCall.TheVariants as calls
use Rattle.tp4_conn.specs.declared.states.InCrWait.{InCrWait}
use Rattle.tp4_conn.specs.declared.states.StateData.TheVariants as stages
use Rattle.tp4_entity.specs.Step.{is_due}
use Rattle.law_tp4_history.specs.Journals.{MakesNone}
use Rattle.law_tp4_history.specs.Lines.{shown_in}
use Rattle.tp4_world.specs.declared.place.EndAt.{EndAt}
use Rattle.law_tp4_associations.specs.Association.{Association, Posted, post, waiting, with_party}
use Rattle.law_tp4_associations.specs.Phase.{IsInUse}
use Rattle.law_tp4_associations.proofs.Spots.{waiting_then}
use Rattle.law_calm_run.proofs.Story.{AreOpening, HasNoUnits, HasTicked, IsClocking, IsRunning, IsYoung, Numbers, Tells}
use Rattle.law_calm_run.proofs.Calling.{Answers, Nobodys, Partners, Users, answers}
use Rattle.law_calm_run.proofs.Continuing.{some_same}
use Rattle.law_calm_run.proofs.Pairing.{clocking_begins, clocking_ends, ticked_now, ticked_stays}
use Rattle.law_calm_run.proofs.Passing.{all_stay, none_more}
use Rattle.law_calm_run.proofs.Stepping.{own_behind, side_behind, two_sides, waiting_other}
use Rattle.law_calm_run.proofs.Storying.{linked_on, tells_acted}
use Rattle.law_calm_run.proofs.Telling.{ActsIn}
use Rattle.law_calm_run.proofs.Young.{row_answers, row_from}

-- the clock goes on, and no end has ticked yet
pub tells_clock : (own : ℕ → List ℕ) (now : ℕ) (ends : List EndAt) (all : List Association) (number : Numbers) (journal made : List JournalEvent) → Tells IsRunning own now ends all [] number journal
    → MakesNone made → ((n : ℕ) → HasNoUnits made n) → ((k : ℕ) (a : Association) (x y : End) → slice_get all k ≡ Some a → a.calling ≡ Some x → a.called ≡ Some y → IsYoung x.stage → IsInUse (now + 1) y)
    → Tells IsClocking own (now + 1) ends all [] number (journal ++ made)
tells_clock own now ends all number journal made t none no_units held = record {
  numbered = t.numbered;
  linked = linked_on own journal made all all number t.linked (all_stay all) none;
  owns = t.owns;
  young = λ k b by end n at end_is young n_is. none_more journal made n (t.young k b by end n at end_is young n_is) (no_units n);
  pairs = λ k b x y c d at x_is y_is c_is d_is opening. clocking_begins journal made now c d x y (t.pairs k b x y c d at x_is y_is c_is d_is opening) (no_units c) (no_units d);
  unused = λ n above. none_more journal made n (t.unused n above) (no_units n);
  uncalled = t.uncalled;
  held = held;
  uncalling = t.uncalling;
}

-- no end is due any more
pub tells_over : (own : ℕ → List ℕ) (now : ℕ) (ends : List EndAt) (all : List Association) (queue : List Posted) (number : Numbers) (journal : List JournalEvent) → Tells IsClocking own now ends all queue number journal
    → Tells IsRunning own now ends all queue number journal
tells_over own now ends all queue number journal t = record {
  numbered = t.numbered;
  linked = t.linked;
  owns = t.owns;
  young = t.young;
  pairs = λ k b x y c d at x_is y_is c_is d_is opening. clocking_ends journal now c d x y (waiting k true queue) (waiting k false queue) (t.pairs k b x y c d at x_is y_is c_is d_is opening);
  unused = t.unused;
  uncalled = t.uncalled;
  held = t.held;
  uncalling = t.uncalling;
}

-- the same two ends, by the tick at these
clocking_at : (journal later : List JournalEvent) (now c d : ℕ) (x y next other : End) (forth back more others : List Sent) (r : IsClocking journal now c d x y forth back)
    → HasTicked r.earlier later now c r.calling next r.told more → HasTicked r.earlier later now d r.called other r.theirs others → IsClocking later now c d next other more others
clocking_at journal later now c d x y next other forth back more others r one two = record {
  earlier = r.earlier;
  before = r.before;
  calling = r.calling;
  called = r.called;
  told = r.told;
  theirs = r.theirs;
  run = r.run;
  clock = r.clock;
  calling_did = one;
  called_did = two;
}

clocking_stays : (journal made : List JournalEvent) (now c d : ℕ) (x y : End) (forth back : List Sent) → IsClocking journal now c d x y forth back → HasNoUnits made c → HasNoUnits made d
    → IsClocking (journal ++ made) now c d x y forth back
clocking_stays journal made now c d x y forth back r one other =
    clocking_at journal (journal ++ made) now c d x y x y forth back forth back r (ticked_stays r.earlier journal made now c r.calling x r.told forth r.calling_did one)
    (ticked_stays r.earlier journal made now d r.called y r.theirs back r.called_did other)

differ : true ≡ false → ⊥
differ e = cc e

no_tick : (call : UserCall) → Ticked ≡ Called call → ⊥
no_tick call e = cc e

module _ (own : ℕ → List ℕ) (now : ℕ) (ends : List EndAt) (all : List Association) (queue : List Posted) (number : Numbers) (journal made : List JournalEvent) (k : ℕ) (a : Association) (end : End) (n : ℕ)
    (is : slice_get all k ≡ Some a) (t : Tells IsClocking own now ends all queue number journal) (due : is_due now (Some end) ≡ true) (place : Option End) where
  abbrev M : Moved
  M = stepped whole now end Ticked

  -- the calling end ticks
  pub tells_calling_tick : a.calling ≡ Some end → number k true ≡ Some n → ((e : End) → place ≡ Some e → e ≡ end_of M) → is_due now (Some (end_of M)) ≡ false
      → ActsIn n made [] (shown_in M.events) M.events → Tells IsClocking own now ends (slice_set all k (with_party a true place)) (queue ++ post k true M.tpdus) number (journal ++ made)
  tells_calling_tick end_is n_is place_is over acts =
      tells_acted IsClocking clocking_stays own now ends all queue number journal t k a true end n is end_is n_is Ticked tt place place_is (λ side. absurd (differ side)) made acts (queue ++ post k true M.tpdus)
      (λ j side apart. waiting_then j side queue (post k true M.tpdus) ∙ ap (λ (l : List Sent). waiting j side queue ++ l) (waiting_other j k side true M.tpdus apart) ∙ append-nil (waiting j side queue)) pair
    where
      pair : (x y : End) (c d : ℕ) → place ≡ Some x → a.called ≡ Some y → number k true ≡ Some c → number k false ≡ Some d → AreOpening x y
          → IsClocking (journal ++ made) now c d x y (waiting k true (queue ++ post k true M.tpdus)) (waiting k false (queue ++ post k true M.tpdus))
      pair x y c d x_is y_is c_is d_is opening =
          let x_same : end_of M ≡ x = sym (place_is x x_is) in
          let open_there : AreOpening (end_of M) y = subst (λ (e : End). AreOpening e y) (sym x_same) opening in
          let before : AreOpening end y = record { calling = row_from now end Ticked open_there.calling; called = opening.called; answered = opening.answered } in
          let c_n : n ≡ c = some_same n c (sym n_is ∙ c_is) in
          let apart : c ≢ d = two_sides ends all number k c d t.numbered (slice_get_within all k a is) c_is d_is in
          let told : ActsIn c made [] (shown_in M.events) M.events = subst (λ (i : ℕ). ActsIn i made [] (shown_in M.events) M.events) c_n acts in
          let was = t.pairs k a end y c d is end_is y_is c_is d_is before in
          let goes : IsClocking (journal ++ made) now c d (end_of M) y (waiting k true queue ++ M.tpdus) (waiting k false queue) =
          clocking_at journal (journal ++ made) now c d end y (end_of M) y (waiting k true queue) (waiting k false queue) (waiting k true queue ++ M.tpdus) (waiting k false queue) was
          (ticked_now was.earlier journal made now c was.calling end was.told (waiting k true queue) was.calling_did due told over)
          (ticked_stays was.earlier journal made now d was.called y was.theirs (waiting k false queue) was.called_did
          (record { gave = told.other_gave d (λ e. apart (sym e)); showed = told.other_showed d (λ e. apart (sym e)) })) in
          subst (λ (e : End). IsClocking (journal ++ made) now c d e y (waiting k true (queue ++ post k true M.tpdus)) (waiting k false (queue ++ post k true M.tpdus))) x_same
          (subst (λ (l : List Sent). IsClocking (journal ++ made) now c d (end_of M) y l (waiting k false (queue ++ post k true M.tpdus))) (own_behind k true queue M.tpdus)
          (subst (λ (l : List Sent). IsClocking (journal ++ made) now c d (end_of M) y (waiting k true queue ++ M.tpdus) l) (side_behind k true queue M.tpdus) goes))

  -- the called end ticks
  pub tells_called_tick : a.called ≡ Some end → number k false ≡ Some n → ((e : End) → place ≡ Some e → e ≡ end_of M) → is_due now (Some (end_of M)) ≡ false
      → ((r : InCrWait) → end.stage ≡ stages.CrWait r → ⊥) → (place ≡ None → IsInUse now (end_of M) → ⊥) → ActsIn n made [] (shown_in M.events) M.events
      → Tells IsClocking own now ends (slice_set all k (with_party a false place)) (queue ++ post k false M.tpdus) number (journal ++ made)
  tells_called_tick end_is n_is place_is over uncalling lost acts =
      tells_acted IsClocking clocking_stays own now ends all queue number journal t k a false end n is end_is n_is Ticked tt place place_is (λ _. lost) made acts (queue ++ post k false M.tpdus)
      (λ j side apart. waiting_then j side queue (post k false M.tpdus) ∙ ap (λ (l : List Sent). waiting j side queue ++ l) (waiting_other j k side false M.tpdus apart) ∙ append-nil (waiting j side queue)) pair
    where
      old : (x : End) → AreOpening x (end_of M) → Answers end.stage → IsYoung end.stage → ⊥
      old x opening (Partners r at) young = uncalling r at
      old x opening (Nobodys none) young = none young
      old x opening (Users since at) young =
          let answer = row_answers now end Ticked since at opening.answered opening.called in
          no_tick (calls.Accept answer.0 answer.1) answer.2

      pair : (x y : End) (c d : ℕ) → a.calling ≡ Some x → place ≡ Some y → number k true ≡ Some c → number k false ≡ Some d → AreOpening x y
          → IsClocking (journal ++ made) now c d x y (waiting k true (queue ++ post k false M.tpdus)) (waiting k false (queue ++ post k false M.tpdus))
      pair x y c d x_is y_is c_is d_is opening =
          let y_same : end_of M ≡ y = sym (place_is y y_is) in
          let open_there : AreOpening x (end_of M) = subst (AreOpening x) (sym y_same) opening in
          let before : AreOpening x end = record { calling = opening.calling; called = row_from now end Ticked open_there.called; answered = old x open_there (answers end.stage) } in
          let d_n : n ≡ d = some_same n d (sym n_is ∙ d_is) in
          let apart : c ≢ d = two_sides ends all number k c d t.numbered (slice_get_within all k a is) c_is d_is in
          let told : ActsIn d made [] (shown_in M.events) M.events = subst (λ (i : ℕ). ActsIn i made [] (shown_in M.events) M.events) d_n acts in
          let was = t.pairs k a x end c d is x_is end_is c_is d_is before in
          let goes : IsClocking (journal ++ made) now c d x (end_of M) (waiting k true queue) (waiting k false queue ++ M.tpdus) =
          clocking_at journal (journal ++ made) now c d x end x (end_of M) (waiting k true queue) (waiting k false queue) (waiting k true queue) (waiting k false queue ++ M.tpdus) was
          (ticked_stays was.earlier journal made now c was.calling x was.told (waiting k true queue) was.calling_did (record { gave = told.other_gave c apart; showed = told.other_showed c apart }))
          (ticked_now was.earlier journal made now d was.called end was.theirs (waiting k false queue) was.called_did due told over) in
          subst (λ (e : End). IsClocking (journal ++ made) now c d x e (waiting k true (queue ++ post k false M.tpdus)) (waiting k false (queue ++ post k false M.tpdus))) y_same
          (subst (λ (l : List Sent). IsClocking (journal ++ made) now c d x (end_of M) l (waiting k false (queue ++ post k false M.tpdus))) (side_behind k false queue M.tpdus)
          (subst (λ (l : List Sent). IsClocking (journal ++ made) now c d x (end_of M) (waiting k true queue) l) (own_behind k false queue M.tpdus) goes))
