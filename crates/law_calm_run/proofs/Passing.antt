-- A TPDU that no end takes: the ends are as before, and where it was for one of two ends of which neither has left, it was taken. So no pair is touched.
use Rattle.std.proofs.Common.{◌≡◌, ◌≢◌, ◌⊎◌, ℕ, Bool, true, false, not, List, ◌∷◌, ◌++◌, slice_get, Some, refl, sym, ◌∙◌, ap, subst, inl, inr}
use Rattle.std.proofs.lemmas.Bool.{cases_eq}
use Rattle.std.proofs.lemmas.List.{append-nil}
use Rattle.script_journal.specs.declared.event.Event.{Event as JournalEvent}
use Rattle.tp4_flow.specs.declared.step.Sent.{Sent}
use Rattle.tp4_conn.specs.End.{End}
use Rattle.law_tp4_history.specs.Journals.{MakesNone}
use Rattle.law_tp4_pair.specs.Standing.{HasLeft}
use Rattle.tp4_world.specs.declared.place.EndAt.{EndAt}
use Rattle.law_tp4_associations.specs.Association.{Association, Posted, post, waiting}
use Rattle.law_tp4_associations.specs.Handing.{IsBetweenOpen}
use Rattle.law_tp4_associations.proofs.Spots.{waiting_then}
use Rattle.law_calm_run.proofs.Story.{AreOpening, HasNoUnits, IsRunning, IsYoung, Numbers, Runs, Tells}
use Rattle.law_calm_run.proofs.Continuing.{AllContinue, some_same}
use Rattle.law_calm_run.proofs.Pairing.{gave_none, running_stays, showed_none}
use Rattle.law_calm_run.proofs.Stepping.{first_other, waiting_other}
use Rattle.law_calm_run.proofs.Storying.{linked_on}

pub all_stay : (all : List Association) → AllContinue all all
all_stay all = record {
  length_is = refl;
  each = λ j b at. record { a = b; is = at; from = refl; to = refl; parties = λ by end end_is. (end, end_is, refl) };
}

pub none_more : (journal made : List JournalEvent) (n : ℕ) → HasNoUnits journal n → HasNoUnits made n → HasNoUnits (journal ++ made) n
none_more journal made n h none = record { gave = gave_none journal made n none.gave ∙ h.gave; showed = showed_none journal made n none.showed ∙ h.showed }

-- what makes no end and tells no unit touches no pair
pub tells_quiet : (Running : Runs) (stays : (journal made : List JournalEvent) (now c d : ℕ) (x y : End) (forth back : List Sent) → Running journal now c d x y forth back → HasNoUnits made c → HasNoUnits made d
    → Running (journal ++ made) now c d x y forth back)
    (own : ℕ → List ℕ) (now : ℕ) (ends : List EndAt) (all : List Association) (queue : List Posted) (number : Numbers) (journal made : List JournalEvent) → Tells Running own now ends all queue number journal → MakesNone made
    → ((n : ℕ) → HasNoUnits made n) → Tells Running own now ends all queue number (journal ++ made)
tells_quiet Running stays own now ends all queue number journal made t none no_units = record {
  numbered = t.numbered;
  linked = linked_on own journal made all all number t.linked (all_stay all) none;
  owns = t.owns;
  young = λ k b by end n at end_is young n_is. none_more journal made n (t.young k b by end n at end_is young n_is) (no_units n);
  pairs = λ k b x y c d at x_is y_is c_is d_is opening.
      stays journal made now c d x y (waiting k true queue) (waiting k false queue) (t.pairs k b x y c d at x_is y_is c_is d_is opening) (no_units c) (no_units d);
  unused = λ n above. none_more journal made n (t.unused n above) (no_units n);
  uncalled = t.uncalled;
  held = t.held;
  uncalling = t.uncalling;
}

-- of two ends of which neither has left, the called one's user has answered
between : (a : Association) (x y : End) → a.calling ≡ Some x → a.called ≡ Some y → AreOpening x y → IsBetweenOpen a
between a x y x_is y_is opening = record {
  x = x;
  y = y;
  calling = x_is;
  called = y_is;
  stays = λ left. gone left;
  answered = λ since is. opening.answered (subst IsYoung (sym is) tt);
}
  where
    gone : HasLeft x.stage ⊎ HasLeft y.stage → ⊥
    gone (inl h) = opening.calling h
    gone (inr h) = opening.called h

pub tells_aside : (own : ℕ → List ℕ) (now : ℕ) (ends : List EndAt) (all : List Association) (posted : Posted) (rest : List Posted) (number : Numbers) (journal made : List JournalEvent) (a : Association) (tpdus : List Sent)
    → Tells IsRunning own now ends all (posted ∷ rest) number journal → slice_get all posted.of ≡ Some a → (IsBetweenOpen a → ⊥) → MakesNone made → ((n : ℕ) → HasNoUnits made n)
    → Tells IsRunning own now ends all (rest ++ post posted.of (not posted.by) tpdus) number (journal ++ made)
tells_aside own now ends all posted rest number journal made a tpdus t is apart none no_units = record {
  numbered = t.numbered;
  linked = linked_on own journal made all all number t.linked (all_stay all) none;
  owns = t.owns;
  young = λ k b by end n at end_is young n_is. none_more journal made n (t.young k b by end n at end_is young n_is) (no_units n);
  pairs = pairs;
  unused = λ n above. none_more journal made n (t.unused n above) (no_units n);
  uncalled = t.uncalled;
  held = t.held;
  uncalling = t.uncalling;
}
  where
    as_before : (j : ℕ) (side : Bool) → j ≢ posted.of → waiting j side (posted ∷ rest) ≡ waiting j side (rest ++ post posted.of (not posted.by) tpdus)
    as_before j side other =
        first_other posted rest j side other
        ∙ sym (waiting_then j side rest (post posted.of (not posted.by) tpdus) ∙ ap (λ (l : List Sent). waiting j side rest ++ l) (waiting_other j posted.of side (not posted.by) tpdus other) ∙ append-nil (waiting j side rest))

    pairs : (k : ℕ) (b : Association) (x y : End) (c d : ℕ) → slice_get all k ≡ Some b → b.calling ≡ Some x → b.called ≡ Some y → number k true ≡ Some c → number k false ≡ Some d → AreOpening x y
        → IsRunning (journal ++ made) now c d x y (waiting k true (rest ++ post posted.of (not posted.by) tpdus)) (waiting k false (rest ++ post posted.of (not posted.by) tpdus))
    pairs k b x y c d at x_is y_is c_is d_is opening = elim (cases_eq k posted.of) [
      | inl same ↦
          let b_a : b ≡ a = some_same b a (sym at ∙ ap (slice_get all) same ∙ is) in
          absurd (apart (subst IsBetweenOpen b_a (between b x y x_is y_is opening)))
      | inr other ↦
          let was = t.pairs k b x y c d at x_is y_is c_is d_is opening in
          let stays = running_stays journal made now c d x y (waiting k true (posted ∷ rest)) (waiting k false (posted ∷ rest)) was (no_units c) (no_units d) in
          subst (λ (l : List Sent). IsRunning (journal ++ made) now c d x y l (waiting k false (rest ++ post posted.of (not posted.by) tpdus))) (as_before k true other)
          (subst (λ (l : List Sent). IsRunning (journal ++ made) now c d x y (waiting k true (posted ∷ rest)) l) (as_before k false other) stays)
    ]
