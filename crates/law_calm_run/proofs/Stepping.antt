-- A TPDU that is taken by the end that it is for: the pair of its association goes on by that happening, all else that waits is as before, and what is
-- told is of that end alone.
use Rattle.std.proofs.Common.{◌≡◌, ◌≢◌, ◌==◌, ◌&&◌, ℕ, ◌<◌, Bool, true, false, not, if◌then◌else◌, List, [], ◌∷◌, ◌++◌, length, slice_get, slice_set, Some, refl, sym, ◌∙◌, ap, subst}
use Rattle.std.proofs.lemmas.Bool.{eq-eqb, ne_eqb}
use Rattle.std.proofs.lemmas.List.{append-nil}
use Rattle.std.proofs.lemmas.Option.{slice_get_within}
use Rattle.script_journal.specs.declared.event.Event.{Event as JournalEvent}
use Rattle.tpdu.specs.declared.tpdu.Tpdu.{Tpdu}
use Rattle.tp4_number.specs.Number.{whole}
use Rattle.tp4_number.proofs.Past.{if_kept}
use Rattle.tp4_flow.specs.declared.step.Sent.{Sent}
use Rattle.tp4_conn.specs.End.{End, Moved, end_of}
use Rattle.tp4_conn.specs.Matching.{wants_sum}
use Rattle.tp4_conn.specs.Table.{Took, stepped}
use Rattle.tp4_conn.specs.declared.end_record.EndRecord.{EndRecord}
use Rattle.tp4_conn.specs.declared.states.InCrWait.{InCrWait}
use Rattle.tp4_conn.specs.declared.states.StateData.{StateData}
use Rattle.tp4_conn.specs.declared.states.StateData.TheVariants as stages
use Rattle.law_tp4_history.specs.Lines.{shown_in}
use Rattle.tp4_world.specs.declared.place.EndAt.{EndAt}
use Rattle.law_tp4_associations.specs.Association.{Association, Posted, is_same, post, waiting, with_party}
use Rattle.law_tp4_associations.proofs.Spots.{waiting_post, waiting_then}
use Rattle.law_calm_run.proofs.Story.{AreNumbered, AreOpening, IsRunning, IsYoung, Numbers, Tells}
use Rattle.law_calm_run.proofs.Continuing.{none_some, some_same}
use Rattle.law_calm_run.proofs.Pairing.{running_back, running_forth, running_stays}
use Rattle.law_calm_run.proofs.Storying.{tells_acted}
use Rattle.law_calm_run.proofs.Telling.{ActsIn}
use Rattle.law_calm_run.proofs.Young.{row_from}

-- ---- what waits

abbrev If : Bool → List Sent → List Sent → List Sent
If b xs ys = if b then xs else ys

same_side : (by : Bool) → is_same by by ≡ true
same_side true = refl
same_side false = refl

other_side : (by : Bool) → is_same by (not by) ≡ false
other_side true = refl
other_side false = refl

own_place : (k : ℕ) → (k == k) ≡ true
own_place k = eq-eqb k k refl

test_true : (a b : Bool) → a ≡ true → b ≡ true → (a && b) ≡ true
test_true a b h k = ap (λ (c : Bool). c && b) h ∙ k

test_first : (a b : Bool) → a ≡ false → (a && b) ≡ false
test_first a b h = ap (λ (c : Bool). c && b) h

test_second : (a b : Bool) → b ≡ false → (a && b) ≡ false
test_second true b h = h
test_second false b h = refl

pub waiting_side : (k : ℕ) (by : Bool) (tpdus : List Sent) → waiting k (not by) (post k by tpdus) ≡ []
waiting_side k by [] = refl
waiting_side k by (sent ∷ tpdus) =
    ap (λ (b : Bool). If b (sent ∷ waiting k (not by) (post k by tpdus)) (waiting k (not by) (post k by tpdus))) (test_second (k == k) (is_same by (not by)) (other_side by)) ∙ waiting_side k by tpdus

pub waiting_other : (j k : ℕ) (side by : Bool) (tpdus : List Sent) → j ≢ k → waiting j side (post k by tpdus) ≡ []
waiting_other j k side by [] apart = refl
waiting_other j k side by (sent ∷ tpdus) apart =
    ap (λ (b : Bool). If b (sent ∷ waiting j side (post k by tpdus)) (waiting j side (post k by tpdus))) (test_first (k == j) (is_same by side) (ne_eqb k j (λ e. apart (sym e)))) ∙ waiting_other j k side by tpdus apart

-- what an end sends comes behind what waits there, and leaves what waits for it
pub own_behind : (k : ℕ) (by : Bool) (queue : List Posted) (tpdus : List Sent) → waiting k by queue ++ tpdus ≡ waiting k by (queue ++ post k by tpdus)
own_behind k by queue tpdus = sym (waiting_then k by queue (post k by tpdus) ∙ ap (λ (l : List Sent). waiting k by queue ++ l) (waiting_post k by tpdus))

pub side_behind : (k : ℕ) (by : Bool) (queue : List Posted) (tpdus : List Sent) → waiting k (not by) queue ≡ waiting k (not by) (queue ++ post k by tpdus)
side_behind k by queue tpdus =
    sym (waiting_then k (not by) queue (post k by tpdus) ∙ ap (λ (l : List Sent). waiting k (not by) queue ++ l) (waiting_side k by tpdus) ∙ append-nil (waiting k (not by) queue))

pub first_own : (posted : Posted) (rest : List Posted) → waiting posted.of posted.by (posted ∷ rest) ≡ posted.sent ∷ waiting posted.of posted.by rest
first_own posted rest =
    ap (λ (b : Bool). If b (posted.sent ∷ waiting posted.of posted.by rest) (waiting posted.of posted.by rest))
    (test_true (posted.of == posted.of) (is_same posted.by posted.by) (own_place posted.of) (same_side posted.by))

first_side : (posted : Posted) (rest : List Posted) → waiting posted.of (not posted.by) (posted ∷ rest) ≡ waiting posted.of (not posted.by) rest
first_side posted rest =
    ap (λ (b : Bool). If b (posted.sent ∷ waiting posted.of (not posted.by) rest) (waiting posted.of (not posted.by) rest))
    (test_second (posted.of == posted.of) (is_same posted.by (not posted.by)) (other_side posted.by))

pub first_other : (posted : Posted) (rest : List Posted) (j : ℕ) (side : Bool) → j ≢ posted.of → waiting j side (posted ∷ rest) ≡ waiting j side rest
first_other posted rest j side apart =
    ap (λ (b : Bool). If b (posted.sent ∷ waiting j side rest) (waiting j side rest)) (test_first (posted.of == j) (is_same posted.by side) (ne_eqb posted.of j (λ e. apart (sym e))))

-- ---- a TPDU that is taken

-- a called end that is still to be answered takes none
waits_still : (now : ℕ) (b : EndRecord) (stage : StateData) (tpdu : Tpdu) (sum : Bool) → ((r : InCrWait) → stage ≡ stages.CrWait r → ⊥) → IsYoung stage
    → IsYoung (stepped whole now (record { base = b; stage = stage }) (Took tpdu sum)).stage
waits_still now b (stages.CrWait w) tpdu sum answered young = absurd (answered w refl)
waits_still now b (stages.UserWait since) tpdu sum answered young = if_kept (λ (m : Moved). IsYoung m.stage) (wants_sum b (stages.UserWait since) tpdu && not sum) _ _ (λ _. tt) (λ _. tt)
waits_still now b other tpdu sum answered young = absurd young

pub two_sides : (ends : List EndAt) (all : List Association) (number : Numbers) (k c d : ℕ) → AreNumbered ends all number → k < length all → number k true ≡ Some c → number k false ≡ Some d → c ≢ d
two_sides ends all number k c d numbered low c_is d_is same =
    let both = numbered.one k k true false c low low c_is (d_is ∙ ap (λ (n : ℕ). Some n) (sym same)) in
    differ both.1
  where
    differ : true ≡ false → ⊥
    differ e = cc e

module _ (own : ℕ → List ℕ) (now : ℕ) (ends : List EndAt) (all : List Association) (rest : List Posted) (number : Numbers) (journal made : List JournalEvent) (k : ℕ) (sent : Sent) (a : Association) (end : End) (n : ℕ)
    (is : slice_get all k ≡ Some a) where
  abbrev M : Moved
  M = stepped whole now end (Took sent.tpdu sent.sum)

  -- the called end takes it
  pub tells_forth : Tells IsRunning own now ends all (record { of = k; by = true; sent = sent } ∷ rest) number journal → a.called ≡ Some end → number k false ≡ Some n
      → ((r : InCrWait) → end.stage ≡ stages.CrWait r → ⊥) → ActsIn n made [] (shown_in M.events) M.events
      → Tells IsRunning own now ends (slice_set all k (with_party a false (Some (end_of M)))) (rest ++ post k false M.tpdus) number (journal ++ made)
  tells_forth t end_is n_is answered acts =
      let posted : Posted = record { of = k; by = true; sent = sent } in
      tells_acted IsRunning running_stays own now ends all (posted ∷ rest) number journal t k a false end n is end_is n_is (Took sent.tpdu sent.sum) tt (Some (end_of M))
      (λ e same. sym (some_same (end_of M) e same)) (λ _ none. absurd (none_some (end_of M) (sym none))) made acts (rest ++ post k false M.tpdus)
      (λ j side apart. waiting_then j side rest (post k false M.tpdus) ∙ ap (λ (l : List Sent). waiting j side rest ++ l) (waiting_other j k side false M.tpdus apart)
      ∙ append-nil (waiting j side rest) ∙ sym (first_other posted rest j side apart))
      pair
    where
      pair : (x y : End) (c d : ℕ) → a.calling ≡ Some x → Some (end_of M) ≡ Some y → number k true ≡ Some c → number k false ≡ Some d → AreOpening x y
          → IsRunning (journal ++ made) now c d x y (waiting k true (rest ++ post k false M.tpdus)) (waiting k false (rest ++ post k false M.tpdus))
      pair x y c d x_is y_is c_is d_is opening =
          let posted : Posted = record { of = k; by = true; sent = sent } in
          let y_same : end_of M ≡ y = some_same (end_of M) y y_is in
          let open_there : AreOpening x (end_of M) = subst (AreOpening x) (sym y_same) opening in
          let open_before : AreOpening x end = record {
            calling = opening.calling;
            called = row_from now end (Took sent.tpdu sent.sum) open_there.called;
            answered = λ young. open_there.answered (waits_still now end.base end.stage sent.tpdu sent.sum answered young);
          } in
          let d_n : n ≡ d = some_same n d (sym n_is ∙ d_is) in
          let apart : c ≢ d = two_sides ends all number k c d t.numbered (slice_get_within all k a is) c_is d_is in
          let was = t.pairs k a x end c d is x_is end_is c_is d_is open_before in
          let before : IsRunning journal now c d x end (sent ∷ waiting k true rest) (waiting k false rest) =
          subst (λ (l : List Sent). IsRunning journal now c d x end (sent ∷ waiting k true rest) l) (first_side posted rest)
          (subst (λ (l : List Sent). IsRunning journal now c d x end l (waiting k false (posted ∷ rest))) (first_own posted rest) was) in
          let goes = running_forth journal made now c d x end sent (waiting k true rest) (waiting k false rest) apart before
          (subst (λ (i : ℕ). ActsIn i made [] (shown_in M.events) M.events) d_n acts) in
          subst (λ (e : End). IsRunning (journal ++ made) now c d x e (waiting k true (rest ++ post k false M.tpdus)) (waiting k false (rest ++ post k false M.tpdus))) y_same
          (subst (λ (l : List Sent). IsRunning (journal ++ made) now c d x (end_of M) l (waiting k false (rest ++ post k false M.tpdus))) (side_behind k false rest M.tpdus)
          (subst (λ (l : List Sent). IsRunning (journal ++ made) now c d x (end_of M) (waiting k true rest) l) (own_behind k false rest M.tpdus) goes))

  -- the calling end takes it
  pub tells_back : Tells IsRunning own now ends all (record { of = k; by = false; sent = sent } ∷ rest) number journal → a.calling ≡ Some end → number k true ≡ Some n
      → ActsIn n made [] (shown_in M.events) M.events
      → Tells IsRunning own now ends (slice_set all k (with_party a true (Some (end_of M)))) (rest ++ post k true M.tpdus) number (journal ++ made)
  tells_back t end_is n_is acts =
      let posted : Posted = record { of = k; by = false; sent = sent } in
      tells_acted IsRunning running_stays own now ends all (posted ∷ rest) number journal t k a true end n is end_is n_is (Took sent.tpdu sent.sum) tt (Some (end_of M))
      (λ e same. sym (some_same (end_of M) e same)) (λ _ none. absurd (none_some (end_of M) (sym none))) made acts (rest ++ post k true M.tpdus)
      (λ j side apart. waiting_then j side rest (post k true M.tpdus) ∙ ap (λ (l : List Sent). waiting j side rest ++ l) (waiting_other j k side true M.tpdus apart)
      ∙ append-nil (waiting j side rest) ∙ sym (first_other posted rest j side apart))
      pair
    where
      pair : (x y : End) (c d : ℕ) → Some (end_of M) ≡ Some x → a.called ≡ Some y → number k true ≡ Some c → number k false ≡ Some d → AreOpening x y
          → IsRunning (journal ++ made) now c d x y (waiting k true (rest ++ post k true M.tpdus)) (waiting k false (rest ++ post k true M.tpdus))
      pair x y c d x_is y_is c_is d_is opening =
          let posted : Posted = record { of = k; by = false; sent = sent } in
          let x_same : end_of M ≡ x = some_same (end_of M) x x_is in
          let open_there : AreOpening (end_of M) y = subst (λ (e : End). AreOpening e y) (sym x_same) opening in
          let open_before : AreOpening end y =
          record { calling = row_from now end (Took sent.tpdu sent.sum) open_there.calling; called = opening.called; answered = opening.answered } in
          let c_n : n ≡ c = some_same n c (sym n_is ∙ c_is) in
          let apart : d ≢ c = λ e. two_sides ends all number k c d t.numbered (slice_get_within all k a is) c_is d_is (sym e) in
          let was = t.pairs k a end y c d is end_is y_is c_is d_is open_before in
          let before : IsRunning journal now c d end y (waiting k true rest) (sent ∷ waiting k false rest) =
          subst (λ (l : List Sent). IsRunning journal now c d end y l (sent ∷ waiting k false rest)) (first_side posted rest)
          (subst (λ (l : List Sent). IsRunning journal now c d end y (waiting k true (posted ∷ rest)) l) (first_own posted rest) was) in
          let goes = running_back journal made now c d end y sent (waiting k false rest) (waiting k true rest) apart before
          (subst (λ (i : ℕ). ActsIn i made [] (shown_in M.events) M.events) c_n acts) in
          subst (λ (e : End). IsRunning (journal ++ made) now c d e y (waiting k true (rest ++ post k true M.tpdus)) (waiting k false (rest ++ post k true M.tpdus))) x_same
          (subst (λ (l : List Sent). IsRunning (journal ++ made) now c d (end_of M) y l (waiting k false (rest ++ post k true M.tpdus))) (own_behind k true rest M.tpdus)
          (subst (λ (l : List Sent). IsRunning (journal ++ made) now c d (end_of M) y (waiting k true rest ++ M.tpdus) l) (side_behind k true rest M.tpdus) goes))
