-- Whom an entity answers.
use Rattle.std.proofs.Common.{◌≡◌, ◌==◌, ◌&&◌, not, ℕ, Bool, true, false, cond, List, [], ◌∷◌, Option, Some, None, refl, ap}
use Rattle.std.proofs.lemmas.Bool.{eqb-false}
use Rattle.std.specs.List.{list_any}
use Rattle.tpdu.specs.Values.{TpduAndSum}
use Rattle.tpdu.specs.declared.tpdu.Tpdu.{Tpdu}
use Rattle.tpdu.specs.declared.tpdu.Tpdu.TheVariants.{Cr, Cc, Dr, Dc, Dt, Ed, Ak, Ea, Er}
use Rattle.tp4_conn.specs.declared.end_record.EndRecord.{EndRecord}
use Rattle.tp4_conn.specs.declared.states.StateData.{StateData}
use Rattle.tp4_conn.specs.declared.states.StateData.TheVariants.{CrWait}
use Rattle.tp4_conn.specs.AkWait.{ak_wait_tpdu}
use Rattle.tp4_conn.specs.Closing.{closing_tpdu}
use Rattle.tp4_conn.specs.CrWait.{cr_wait_tpdu}
use Rattle.tp4_conn.specs.End.{End, Moved}
use Rattle.tp4_conn.specs.Matching.{is_match, wants_sum}
use Rattle.tp4_conn.specs.Opened.{opened_tpdu}
use Rattle.tp4_conn.specs.Table.{Took, on_tpdu, stepped, untaken, at as base_at}
use Rattle.tp4_conn.specs.WaitBeforeClose.{wait_before_close_tpdu}
use Rattle.tp4_entity.specs.Association.{answer, answers, is_called, is_registered, met, met_by, new_end, refusal, unmatched}
use Rattle.tp4_entity.specs.Entity.{Acted, Entity, end_at, moved}
use Rattle.tp4_entity.specs.References.{least_free}
use Rattle.tp4_entity.specs.Standing.{Answers, Confirmed, Matches, Meets, Quiet, Refused}
use Rattle.tp4_entity.proofs.PlaceLaws.{Place}

-- a TPDU that belongs to no end
unmatched_dr : (wrap : ℕ → ℕ → ℕ) (now : ℕ) (e : Entity) (from : List ℕ) (destination source reason : ℕ) (info : Option (List ℕ)) (text : List ℕ) (sum none : Bool) → (source == 0) ≡ none
    → Meets wrap now e from (Dr destination source reason info text, sum) (unmatched e from (Dr destination source reason info text))
unmatched_dr wrap now e from destination source reason info text sum true is =
    Quiet (ap (λ (b : Bool). cond b [] (answer from (Dc source destination) ∷ [])) is)
unmatched_dr wrap now e from destination source reason info text sum false is =
    Answers (answer from (Dc source destination)) (Confirmed destination source reason info text refl (eqb-false source 0 is) refl)
    (ap (λ (b : Bool). cond b [] (answer from (Dc source destination) ∷ [])) is) refl

unmatched_meets : (wrap : ℕ → ℕ → ℕ) (now : ℕ) (e : Entity) (from : List ℕ) (tpdu : Tpdu) (sum : Bool) → Meets wrap now e from (tpdu, sum) (unmatched e from tpdu)
unmatched_meets wrap now e from (Cc credit destination source width calling called size preferred extra version classes ack_time text) sum = Answers (refusal from source 132) (Refused source 132 refl refl) refl refl
unmatched_meets wrap now e from (Dr destination source reason info text) sum = unmatched_dr wrap now e from destination source reason info text sum (source == 0) refl
unmatched_meets wrap now e from tpdu sum = Quiet refl

if_matches : (b : Bool) (wrap : ℕ → ℕ → ℕ) (now : ℕ) (e : Entity) (from : List ℕ) (tpdu : Tpdu) (sum : Bool) (reference : ℕ) (end : End) → end_at e reference ≡ Some end → is_match end.base end.stage from tpdu ≡ b
    → Meets wrap now e from (tpdu, sum) (cond b (moved e reference (stepped wrap now end (Took tpdu sum))) (unmatched e from tpdu))
if_matches true wrap now e from tpdu sum reference end is fits = Matches reference end is fits refl
if_matches false wrap now e from tpdu sum reference end is fits = unmatched_meets wrap now e from tpdu sum

by_meets : (wrap : ℕ → ℕ → ℕ) (now : ℕ) (e : Entity) (from : List ℕ) (tpdu : Tpdu) (sum : Bool) (reference : ℕ) (place : Place) → end_at e reference ≡ place
    → Meets wrap now e from (tpdu, sum) (met_by wrap now e from (tpdu, sum) reference place)
by_meets wrap now e from tpdu sum reference None is = unmatched_meets wrap now e from tpdu sum
by_meets wrap now e from tpdu sum reference (Some end) is = if_matches (is_match end.base end.stage from tpdu) wrap now e from tpdu sum reference end is refl

-- a CR
meets_if : (b : Bool) (wrap : ℕ → ℕ → ℕ) (now : ℕ) (e : Entity) (from : List ℕ) (tpdu : TpduAndSum) (one other : Acted) → Meets wrap now e from tpdu one → Meets wrap now e from tpdu other
    → Meets wrap now e from tpdu (cond b one other)
meets_if true wrap now e from tpdu one other h k = h
meets_if false wrap now e from tpdu one other h k = k

pub meets : (wrap : ℕ → ℕ → ℕ) (now : ℕ) (e : Entity) (from : List ℕ) (tpdu : TpduAndSum) → Meets wrap now e from tpdu (met wrap now e from tpdu)
meets wrap now e from (Cr credit source width calling called size preferred extra version classes ack_time text, sum) =
    let cr = Cr credit source width calling called size preferred extra version classes ack_time text in
    let three = cond (not (is_registered e.selectors called)) (answers e (refusal from source 3 ∷ [])) (new_end now e from source cr (least_free now e)) in
    let two = cond (list_any (is_called true from source) e.ends) (answers e (refusal from source 131 ∷ [])) three in
    meets_if (list_any (is_called false from source) e.ends) wrap now e from (cr, sum) (answers e []) two (Quiet refl)
    (meets_if (list_any (is_called true from source) e.ends) wrap now e from (cr, sum) (answers e (refusal from source 131 ∷ [])) three
    (Answers (refusal from source 131) (Refused source 131 refl refl) refl refl)
    (meets_if (not (is_registered e.selectors called)) wrap now e from (cr, sum) (answers e (refusal from source 3 ∷ [])) (new_end now e from source cr (least_free now e))
    (Answers (refusal from source 3) (Refused source 3 refl refl) refl refl) (by_reference (least_free now e))))
  where
    by_reference : (found : Option ℕ) → Meets wrap now e from (Cr credit source width calling called size preferred extra version classes ack_time text, sum)
        (new_end now e from source (Cr credit source width calling called size preferred extra version classes ack_time text) found)
    by_reference None = Answers (refusal from source 129) (Refused source 129 refl refl) refl refl
    by_reference (Some reference) = Quiet refl
meets wrap now e from (Cc credit destination source width calling called size preferred extra version classes ack_time text, sum) =
    by_meets wrap now e from (Cc credit destination source width calling called size preferred extra version classes ack_time text) sum destination (end_at e destination) refl
meets wrap now e from (Dr destination source reason info text, sum) = by_meets wrap now e from (Dr destination source reason info text) sum destination (end_at e destination) refl
meets wrap now e from (Dc destination source, sum) = by_meets wrap now e from (Dc destination source) sum destination (end_at e destination) refl
meets wrap now e from (Dt destination last number text, sum) = by_meets wrap now e from (Dt destination last number text) sum destination (end_at e destination) refl
meets wrap now e from (Ed destination last number text, sum) = by_meets wrap now e from (Ed destination last number text) sum destination (end_at e destination) refl
meets wrap now e from (Ak destination number credit subsequence confirmation, sum) =
    by_meets wrap now e from (Ak destination number credit subsequence confirmation) sum destination (end_at e destination) refl
meets wrap now e from (Ea destination number, sum) = by_meets wrap now e from (Ea destination number) sum destination (end_at e destination) refl
meets wrap now e from (Er destination cause rejected, sum) = by_meets wrap now e from (Er destination cause rejected) sum destination (end_at e destination) refl

-- ---- a DR with source 0

tpdu_quiet : (wrap : ℕ → ℕ → ℕ) (b : EndRecord) (stage : StateData) (destination reason : ℕ) (info : Option (List ℕ)) (text : List ℕ) → (on_tpdu wrap b stage (Dr destination 0 reason info text)).tpdus ≡ []
unfolding cr_wait_tpdu wait_before_close_tpdu ak_wait_tpdu opened_tpdu closing_tpdu
tpdu_quiet wrap b (CrWait w) destination reason info text = refl
tpdu_quiet wrap b stage destination reason info text = refl

quiet_if : (b : Bool) (one other : Moved) → one.tpdus ≡ [] → other.tpdus ≡ [] → (cond b one other).tpdus ≡ []
quiet_if true one other h k = h
quiet_if false one other h k = k

acted_if : (b : Bool) (one other : Acted) → one.tpdus ≡ [] → other.tpdus ≡ [] → (cond b one other).tpdus ≡ []
acted_if true one other h k = h
acted_if false one other h k = k

by_quiet : (wrap : ℕ → ℕ → ℕ) (now : ℕ) (e : Entity) (from : List ℕ) (destination reason : ℕ) (info : Option (List ℕ)) (text : List ℕ) (sum : Bool) (place : Place)
    → (met_by wrap now e from (Dr destination 0 reason info text, sum) destination place).tpdus ≡ []
by_quiet wrap now e from destination reason info text sum None = refl
by_quiet wrap now e from destination reason info text sum (Some end) =
    let dr = Dr destination 0 reason info text in
    acted_if (is_match end.base end.stage from dr) (moved e destination (stepped wrap now end (Took dr sum))) (unmatched e from dr)
    (quiet_if (wants_sum end.base end.stage dr && not sum) (untaken end.base end.stage) (on_tpdu wrap (base_at now end.base) end.stage dr) refl
    (tpdu_quiet wrap (base_at now end.base) end.stage destination reason info text)) refl

pub last : (wrap : ℕ → ℕ → ℕ) (now : ℕ) (e : Entity) (from : List ℕ) (destination reason : ℕ) (info : Option (List ℕ)) (text : List ℕ) (sum : Bool)
    → (met wrap now e from (Dr destination 0 reason info text, sum)).tpdus ≡ []
last wrap now e from destination reason info text sum = by_quiet wrap now e from destination reason info text sum (end_at e destination)
