-- A call of a user on an end, where nothing waits: the pair of its association goes on by that happening. By the accept of a called end the pair begins.
use Rattle.std.proofs.Common.{◌≡◌, ◌≢◌, ℕ, true, false, List, [], ◌++◌, slice_get, slice_set, Some, None, refl, sym, ◌∙◌, subst}
use Rattle.std.proofs.lemmas.Option.{slice_get_within}
use Rattle.script_journal.specs.declared.event.Event.{Event as JournalEvent}
use Rattle.tp4_number.specs.Number.{whole}
use Rattle.tpdu.specs.declared.service.Options.{Options}
use Rattle.tp4_flow.specs.declared.step.Sent.{Sent}
use Rattle.tp4_conn.specs.Calls.{call_refusal}
use Rattle.tp4_conn.specs.End.{End, Moved, end_of}
use Rattle.tp4_conn.specs.Table.{Called, stepped}
use Rattle.tp4_conn.specs.declared.call.UserCall.{UserCall}
use Rattle.tp4_conn.specs.declared.call.UserCall.TheVariants as calls
use Rattle.tp4_conn.specs.declared.states.InCrWait.{InCrWait}
use Rattle.tp4_conn.specs.declared.states.StateData.{StateData}
use Rattle.tp4_conn.specs.declared.states.StateData.TheVariants as stages
use Rattle.law_tp4_history.specs.Lines.{given, shown_in}
use Rattle.law_tp4_pair.specs.Pair.{Accepts}
use Rattle.law_tp4_pair.specs.Standing.{HasLeft}
use Rattle.tp4_world.specs.declared.place.EndAt.{EndAt}
use Rattle.law_tp4_associations.specs.Association.{Association, post, waiting, with_party}
use Rattle.law_tp4_associations.proofs.Spots.{waiting_post}
use Rattle.law_calm_run.proofs.Story.{AreOpening, IsRunning, IsYoung, Numbers, Tells}
use Rattle.law_calm_run.proofs.Continuing.{none_some, some_same}
use Rattle.law_calm_run.proofs.Pairing.{running_begins, running_called, running_calling, running_stays}
use Rattle.law_calm_run.proofs.Stepping.{two_sides, waiting_other, waiting_side}
use Rattle.law_calm_run.proofs.Storying.{tells_acted}
use Rattle.law_calm_run.proofs.Telling.{ActsIn}
use Rattle.law_calm_run.proofs.Young.{row_answers, row_from}

-- a state by what may be answered in it
pub data Answers (stage : StateData) : Type 0 where
  Users : (since : ℕ) → stage ≡ stages.UserWait since → Answers stage
  Partners : (r : InCrWait) → stage ≡ stages.CrWait r → Answers stage
  Nobodys : (IsYoung stage → ⊥) → Answers stage

pub answers : (stage : StateData) → Answers stage
answers (stages.CrWait w) = Partners w refl
answers (stages.UserWait since) = Users since refl
answers other = Nobodys (λ h. h)

-- two ends of which one may accept
abbrev pub MayBegin : ℕ → End → End → Options → Type 0
MayBegin now x y asked =
    IsYoung x.stage
    × Accepts (record { clock = now; calling = x; called = y; forth = []; back = []; calling_gave = []; called_gave = []; calling_showed = []; called_showed = []; calling_told = []; called_told = [] }) asked

call_same : (one two : UserCall) → Called one ≡ Called two → one ≡ two
call_same one two e = cc

module _ (own : ℕ → List ℕ) (now : ℕ) (ends : List EndAt) (all : List Association) (number : Numbers) (journal made : List JournalEvent) (k : ℕ) (call : UserCall) (a : Association) (end : End) (n : ℕ)
    (is : slice_get all k ≡ Some a) (may : call_refusal end.base end.stage call ≡ None) (t : Tells IsRunning own now ends all [] number journal) where
  abbrev M : Moved
  M = stepped whole now end (Called call)

  -- on the calling end
  pub tells_calling : a.calling ≡ Some end → number k true ≡ Some n → ActsIn n made (given (Called call)) (shown_in M.events) M.events
      → Tells IsRunning own now ends (slice_set all k (with_party a true (Some (end_of M)))) (post k true M.tpdus) number (journal ++ made)
  tells_calling end_is n_is acts =
      tells_acted IsRunning running_stays own now ends all [] number journal t k a true end n is end_is n_is (Called call) may (Some (end_of M)) (λ e same. sym (some_same (end_of M) e same)) (λ _ none. absurd (none_some (end_of M) (sym none))) made acts (post k true M.tpdus)
      (λ j side apart. waiting_other j k side true M.tpdus apart) pair
    where
      pair : (x y : End) (c d : ℕ) → Some (end_of M) ≡ Some x → a.called ≡ Some y → number k true ≡ Some c → number k false ≡ Some d → AreOpening x y
          → IsRunning (journal ++ made) now c d x y (waiting k true (post k true M.tpdus)) (waiting k false (post k true M.tpdus))
      pair x y c d x_is y_is c_is d_is opening =
          let x_same : end_of M ≡ x = some_same (end_of M) x x_is in
          let open_there : AreOpening (end_of M) y = subst (λ (e : End). AreOpening e y) (sym x_same) opening in
          let before : AreOpening end y = record { calling = row_from now end (Called call) open_there.calling; called = opening.called; answered = opening.answered } in
          let c_n : n ≡ c = some_same n c (sym n_is ∙ c_is) in
          let apart : d ≢ c = λ e. two_sides ends all number k c d t.numbered (slice_get_within all k a is) c_is d_is (sym e) in
          let goes = running_calling journal made now c d end y call apart (t.pairs k a end y c d is end_is y_is c_is d_is before) may
          (subst (λ (i : ℕ). ActsIn i made (given (Called call)) (shown_in M.events) M.events) c_n acts) in
          subst (λ (e : End). IsRunning (journal ++ made) now c d e y (waiting k true (post k true M.tpdus)) (waiting k false (post k true M.tpdus))) x_same
          (subst (λ (l : List Sent). IsRunning (journal ++ made) now c d (end_of M) y l (waiting k false (post k true M.tpdus))) (sym (waiting_post k true M.tpdus))
          (subst (λ (l : List Sent). IsRunning (journal ++ made) now c d (end_of M) y M.tpdus l) (sym (waiting_side k true M.tpdus)) goes))

  -- on the called end
  pub tells_called : a.called ≡ Some end → number k false ≡ Some n → ActsIn n made (given (Called call)) (shown_in M.events) M.events → ((r : InCrWait) → end.stage ≡ stages.CrWait r → ⊥)
      → ((x : End) (since : ℕ) (asked : Options) (octets : List ℕ) → a.calling ≡ Some x → (HasLeft x.stage → ⊥) → end.stage ≡ stages.UserWait since → call ≡ calls.Accept asked octets → MayBegin now x end asked)
      → Tells IsRunning own now ends (slice_set all k (with_party a false (Some (end_of M)))) (post k false M.tpdus) number (journal ++ made)
  tells_called end_is n_is acts uncalling begins =
      tells_acted IsRunning running_stays own now ends all [] number journal t k a false end n is end_is n_is (Called call) may (Some (end_of M)) (λ e same. sym (some_same (end_of M) e same)) (λ _ none. absurd (none_some (end_of M) (sym none))) made acts (post k false M.tpdus)
      (λ j side apart. waiting_other j k side false M.tpdus apart) pair
    where
      goes_on : (x : End) (c d : ℕ) → a.calling ≡ Some x → number k true ≡ Some c → number k false ≡ Some d → n ≡ d → AreOpening x (end_of M) → Answers end.stage
          → IsRunning (journal ++ made) now c d x (end_of M) [] M.tpdus
      goes_on x c d x_is c_is d_is d_n opening (Partners r at) = absurd (uncalling r at)
      goes_on x c d x_is c_is d_is d_n opening (Nobodys old) =
          let before : AreOpening x end = record { calling = opening.calling; called = row_from now end (Called call) opening.called; answered = old } in
          let apart : c ≢ d = two_sides ends all number k c d t.numbered (slice_get_within all k a is) c_is d_is in
          running_called journal made now c d x end call apart (t.pairs k a x end c d is x_is end_is c_is d_is before) may (subst (λ (i : ℕ). ActsIn i made (given (Called call)) (shown_in M.events) M.events) d_n acts)
      goes_on x c d x_is c_is d_is d_n opening (Users since at) =
          let answer = row_answers now end (Called call) since at opening.answered opening.called in
          let call_is : call ≡ calls.Accept answer.0 answer.1 = call_same call (calls.Accept answer.0 answer.1) answer.2 in
          let both = begins x since answer.0 answer.1 x_is opening.calling at call_is in
          let apart : c ≢ d = two_sides ends all number k c d t.numbered (slice_get_within all k a is) c_is d_is in
          let one = t.young k a true x c is x_is both.0 c_is in
          let other = t.young k a false end d is end_is (subst IsYoung (sym at) tt) d_is in
          let P : UserCall → Type 0 = λ u. let m = stepped whole now end (Called u) in ActsIn d made (given (Called u)) (shown_in m.events) m.events in
          let told : P (calls.Accept answer.0 answer.1) = subst P call_is (subst (λ (i : ℕ). ActsIn i made (given (Called call)) (shown_in M.events) M.events) d_n acts) in
          let Q : UserCall → Type 0 = λ u. let m = stepped whole now end (Called u) in IsRunning (journal ++ made) now c d x (end_of m) [] m.tpdus in
          subst Q (sym call_is) (running_begins journal made now c d x end answer.0 answer.1 apart one other both.1 told)

      pair : (x y : End) (c d : ℕ) → a.calling ≡ Some x → Some (end_of M) ≡ Some y → number k true ≡ Some c → number k false ≡ Some d → AreOpening x y
          → IsRunning (journal ++ made) now c d x y (waiting k true (post k false M.tpdus)) (waiting k false (post k false M.tpdus))
      pair x y c d x_is y_is c_is d_is opening =
          let y_same : end_of M ≡ y = some_same (end_of M) y y_is in
          let open_there : AreOpening x (end_of M) = subst (AreOpening x) (sym y_same) opening in
          let goes = goes_on x c d x_is c_is d_is (some_same n d (sym n_is ∙ d_is)) open_there (answers end.stage) in
          subst (λ (e : End). IsRunning (journal ++ made) now c d x e (waiting k true (post k false M.tpdus)) (waiting k false (post k false M.tpdus))) y_same
          (subst (λ (l : List Sent). IsRunning (journal ++ made) now c d x (end_of M) l (waiting k false (post k false M.tpdus))) (sym (waiting_side k false M.tpdus))
          (subst (λ (l : List Sent). IsRunning (journal ++ made) now c d x (end_of M) [] l) (sym (waiting_post k false M.tpdus)) goes))
