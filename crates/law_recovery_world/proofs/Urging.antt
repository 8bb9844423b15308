-- Where expedited data is not agreed no row of an end has to do with it: none is submitted, so none is sent.
use Rattle.std.specs.Prelude.{not, is_some}
use Rattle.std.proofs.Common.{◌≡◌, ◌-◌, ◌==◌, ◌||◌, ◌&&◌, ◌+◌, ◌++◌, ℕ, zero, suc, Bool, true, false, nat_le, List, [], ◌∷◌, length, Option, Some, None, refl, sym, ◌∙◌, ap, true≢false}
use Rattle.tpdu.specs.declared.service.Options.{Options}
use Rattle.tpdu.specs.declared.tpdu.Tpdu.{Tpdu}
use Rattle.tpdu.specs.declared.tpdu.Tpdu.TheVariants.{Dr, Dt, Ed, Ak, Ea, Er}
use Rattle.tp4_number.specs.Number.{near, whole, wire}
use Rattle.tp4_number.specs.declared.got.Got.{Got}
use Rattle.tp4_number.specs.declared.got.Got.TheVariants.{TooLarge}
use Rattle.tp4_number.specs.declared.piece.Piece.{Piece}
use Rattle.tp4_number.proofs.Past.{if_kept}
use Rattle.tp4_flow.specs.ReceivingHalf.{dt_arrival, half_granted, taken_dt}
use Rattle.tp4_flow.specs.declared.rules.Life.{Life}
use Rattle.tp4_flow.specs.declared.rules.Life.TheVariants.{Goes, Exhausted}
use Rattle.tp4_flow.specs.declared.rules.SubmitRefusal.{SubmitRefusal}
use Rattle.tp4_flow.specs.declared.rules.SubmitRefusal.TheVariants as submits
use Rattle.tp4_sending.specs.SendingHalf.{FlowSender, Sendings, UrgentSender, acknowledged, acknowledged_to, at, block_in, has_next, is_noted, is_outstanding, is_taken, is_urgent, life_of, new_sends, normals, normals_where, one_urgent, opened, resends, resends_urgent_as, rule_allows, sent_normal, submitted, ticked, ticked_as, urgent_done, urgent_refusal}
use Rattle.tp4_sending.specs.Pieces.{end_of}
use Rattle.tp4_sending.specs.declared.tries.Tries.{Tries}
use Rattle.tp4_conn.specs.declared.call.UserCall.{UserCall}
use Rattle.tp4_conn.specs.declared.call.UserCall.TheVariants.{Normal, Urgent, Window, Disconnect}
use Rattle.tp4_conn.specs.declared.end_record.EndRecord.{EndRecord}
use Rattle.tp4_conn.specs.declared.states.InAkWait.{InAkWait}
use Rattle.tp4_conn.specs.declared.states.InOpened.{InOpened}
use Rattle.tp4_conn.specs.declared.states.StateData.{StateData}
use Rattle.tp4_conn.specs.declared.states.StateData.TheVariants.{AkWait, Opened}
use Rattle.tp4_conn.specs.Agreeing.{halves_of}
use Rattle.tp4_conn.specs.AkWait.{opening}
use Rattle.tp4_conn.specs.Calls.{call_refusal, urgent_unit_refusal}
use Rattle.tp4_conn.specs.CrWait.{confirmed}
use Rattle.tp4_conn.specs.End.{End, Moved}
use Rattle.tp4_conn.specs.Matching.{wants_sum}
use Rattle.tp4_conn.specs.Opened.{dt_as, hearing, is_expedited, opened_as, opened_tick, opened_tpdu}
use Rattle.tp4_conn.specs.Table.{Called, Event, Ticked, Took, at as now_at, on_call, on_tick, on_tpdu, stepped}
use Rattle.law_recovery_world.specs.Steady.{IsWithoutUrgent, StageUrges}
use Rattle.law_tp4_rows.proofs.RowsWithout.{HasNone, accepts_in, ak_wait_later, ak_wait_row, call_without, opens_in, tick_without, tpdu_without}

-- a call that is not refused
abbrev pub IsUnrefused : End → Event → Type 0
IsUnrefused e (Called call) = call_refusal e.base e.stage call ≡ None
IsUnrefused e other = Prim.Unit {0}

-- ---- a sending half

abbrev Without : Sendings → Type 0
Without x = IsWithoutUrgent x.sender

normals_without : (fuel : ℕ) (s : FlowSender) → IsWithoutUrgent s → Without (normals fuel s)
normals_without zero s n = n
normals_without (suc fuel) s n =
    if_kept Without (not (has_next s)) _ _ (λ _. n)
    (λ _. if_kept Without (rule_allows s s.numbers.blocks s.numbers.next) _ _ (λ _. normals_without fuel (sent_normal s) n) (λ _. if_kept Without (is_noted s.noted s.numbers.next) _ _ (λ _. n) (λ _. n)))

where_without : (s : FlowSender) → IsWithoutUrgent s → Without (normals_where s)
where_without s n = if_kept Without (is_urgent s) _ _ (λ _. n) (λ _. normals_without (end_of s.rules.piece s.queue - s.numbers.next) s n)

urgent_without : (s : FlowSender) → IsWithoutUrgent s → Without (one_urgent s)
urgent_without s n =
    if_kept Without (is_some s.urgent.out || length s.urgent.units == 0) _ _ (λ _. n)
    (λ some. absurd (true≢false (sym (ap (λ (v : UrgentSender). is_some v.out || length v.units == 0) n) ∙ some)))

new_without : (s : FlowSender) → IsWithoutUrgent s → Without (new_sends s)
new_without s n = if_kept Without s.is_open _ _ (λ _. where_without (one_urgent s).sender (urgent_without s n)) (λ _. n)

submitted_without : (s : FlowSender) (unit : List ℕ) → IsWithoutUrgent s → Without (submitted s unit)
submitted_without s unit n = new_without (record s { queue = record s.queue { units = s.queue.units ++ unit ∷ [] } }) n

opened_without : (s : FlowSender) → IsWithoutUrgent s → Without (opened s)
opened_without s n = new_without (record s { is_open = true }) n

acknowledged_without : (s : FlowSender) (w granted subsequence : ℕ) → IsWithoutUrgent s → Without (acknowledged s w granted subsequence)
acknowledged_without s w granted subsequence n =
    let number = near (block_in s) s.numbers.base w in
    if_kept Without (is_taken s number granted subsequence) _ _ (λ _. new_without (acknowledged_to s number granted subsequence) n) (λ _. n)

done_without : (s : FlowSender) (w : ℕ) → IsWithoutUrgent s → Without (urgent_done s w)
done_without s w n =
    if_kept Without (is_outstanding s w) _ _
    (λ out. absurd (true≢false (sym out ∙ ap (λ (v : UrgentSender). is_some v.out && wire (block_in s) (v.next - 1) == w) n)))
    (λ _. n)

again_without : (s : FlowSender) (out : Option Tries) → s.urgent.out ≡ out → IsWithoutUrgent s → Without (resends_urgent_as out s)
again_without s None is n = n
again_without s (Some tries) is n = let none : Some tries ≡ None = sym is ∙ ap (λ (v : UrgentSender). v.out) n in absurd (cc none)

ticked_without : (s : FlowSender) → IsWithoutUrgent s → Without (ticked s)
ticked_without s n = by (life_of s)
  where
    by : (life : Life) → Without (ticked_as life s)
    by Exhausted = n
    by Goes = new_without (resends_urgent_as (resends s).sender.urgent.out (resends s).sender).sender (again_without (resends s).sender (resends s).sender.urgent.out refl n)

-- ---- rows

module _ (b : EndRecord) where
  abbrev Row : Moved → Type 0
  Row m = StageUrges m.base.agreed m.stage

  urgent_allowed : (agreed : Bool) (r : Option SubmitRefusal) → urgent_unit_refusal agreed r ≡ None → agreed ≡ false → ⊥
  urgent_allowed true r e none = cc none
  urgent_allowed false None e none = cc e
  urgent_allowed false (Some submits.EmptyUnit) e none = cc e
  urgent_allowed false (Some submits.TooLong) e none = cc e
  urgent_allowed false (Some submits.QueueFull) e none = cc e

  module _ (o : InOpened) (f : is_expedited b.agreed ≡ false → IsWithoutUrgent o.halves.sending) where
    dt_urges : (got : Got) (w : ℕ) (piece : Piece) → Row (dt_as got b o (taken_dt whole o.halves.receiving w piece))
    dt_urges TooLarge w piece = tt
    dt_urges other w piece = f

    opened_urges : (tpdu : Tpdu) → Row (opened_tpdu whole b o tpdu)
    unfolding opened_tpdu
    opened_urges (Dr destination source reason info text) = tt
    opened_urges (Er destination cause rejected) = tt
    opened_urges (Dt destination last number text) = dt_urges (dt_arrival o.halves.receiving number (record { last = last; octets = text })).got number (record { last = last; octets = text })
    opened_urges (Ed destination last number text) = if_kept Row (is_expedited b.agreed) _ _ (λ _. f) (λ _. tt)
    opened_urges (Ak destination number given subsequence confirmation) = λ none. acknowledged_without (at b.clock o.halves.sending) number given subsequence (f none)
    opened_urges (Ea destination number) = λ none. done_without (at b.clock o.halves.sending) number (f none)
    opened_urges other = f

    opened_later : Row (opened_tick b o)
    unfolding opened_tick
    opened_later = if_kept Row (nat_le (o.took + b.timers.inactive) b.clock) _ _ (λ _. tt) (λ _. by (life_of (at b.clock o.halves.sending)))
      where
        sent : is_expedited b.agreed ≡ false → Without (ticked (at b.clock o.halves.sending))
        sent none = ticked_without (at b.clock o.halves.sending) (f none)

        by : (life : Life) → Row (opened_as life b o)
        by Exhausted = tt
        by Goes = if_kept Row (nat_le (o.acked + b.timers.window) b.clock) _ _ (λ _. sent) (λ _. sent)

    opened_call : (call : UserCall) → call_refusal b (Opened o) call ≡ None → Row (on_call b (Opened o) call)
    opened_call (Normal unit) e = λ none. submitted_without (at b.clock o.halves.sending) unit (f none)
    opened_call (Urgent unit) e = λ none. absurd (urgent_allowed (is_expedited b.agreed) (urgent_refusal o.halves.sending (length unit)) e none)
    opened_call (Window granted) e =
        if_kept Row ((half_granted o.halves.receiving granted).receiver.inbox.credit == o.halves.receiving.receiver.inbox.credit) _ _ (λ _. f) (λ _. f)
    opened_call (Disconnect octets) e = tt
    opened_call other e = f

  module _ (w : InAkWait) (f : is_expedited b.agreed ≡ false → IsWithoutUrgent w.halves.sending) where
    opening_urges : (tpdu : Tpdu) → Row (opening whole b w.halves tpdu)
    opening_urges tpdu =
        let s : Sendings = opened (at b.clock w.halves.sending) in
        let o : InOpened = record { took = b.clock; acked = b.clock; halves = record w.halves { sending = s.sender } } in
        opened_urges o (λ none. opened_without (at b.clock w.halves.sending) (f none)) tpdu

    ak_wait_call : (call : UserCall) → call_refusal b (AkWait w) call ≡ None → Row (on_call b (AkWait w) call)
    ak_wait_call (Normal unit) e = λ none. submitted_without (at b.clock w.halves.sending) unit (f none)
    ak_wait_call (Urgent unit) e = λ none. absurd (urgent_allowed (is_expedited b.agreed) (urgent_refusal w.halves.sending (length unit)) e none)
    ak_wait_call (Disconnect octets) e = tt
    ak_wait_call other e = f

  -- of a state without halves nothing is asked
  none_urges : (m : Moved) → HasNone m.stage → Row m
  none_urges m none = by m.stage none
    where
      by : (stage : StateData) → HasNone stage → StageUrges m.base.agreed stage
      by (AkWait w) none = absurd none
      by (Opened o) none = absurd none
      by other none = tt

  opens_urges : (source given : ℕ) (options : Options) (text : List ℕ) → Row (confirmed (record b { partner = source; credit = given; agreed = Some options }) options text)
  opens_urges source given options text = λ none. opened_without (at b.clock (halves_of (record b { partner = source; credit = given; agreed = Some options }) options).sending) refl

  -- ---- all rows

  tpdu_urges : (stage : StateData) (tpdu : Tpdu) → StageUrges b.agreed stage → Row (on_tpdu whole b stage tpdu)
  tpdu_urges (AkWait w) tpdu f = ak_wait_row whole b Row none_urges w f tpdu (opening_urges w f tpdu)
  tpdu_urges (Opened o) tpdu f = opened_urges (hearing b o) f tpdu
  tpdu_urges other tpdu f = tpdu_without whole b Row none_urges other tt tpdu (opens_in b Row opens_urges other tpdu)

  tick_urges : (stage : StateData) → StageUrges b.agreed stage → Row (on_tick b stage)
  tick_urges (AkWait w) f = ak_wait_later whole b Row none_urges w f f
  tick_urges (Opened o) f = opened_later o f
  tick_urges other f = tick_without whole b Row none_urges other tt

  call_urges : (stage : StateData) (call : UserCall) → call_refusal b stage call ≡ None → StageUrges b.agreed stage → Row (on_call b stage call)
  call_urges (AkWait w) call e f = ak_wait_call w f call e
  call_urges (Opened o) call e f = opened_call o f call e
  call_urges other call e f = call_without whole b Row none_urges other tt call (accepts_in b Row (λ asked octets. λ none. refl) other)

pub row_urges : (now : ℕ) (e : End) (event : Event) → IsUnrefused e event → StageUrges e.base.agreed e.stage → StageUrges (stepped whole now e event).base.agreed (stepped whole now e event).stage
row_urges now e (Called call) allowed f = call_urges (now_at now e.base) e.stage call (refused_at call allowed) f
  where
    refused_at : (call : UserCall) → call_refusal e.base e.stage call ≡ None → call_refusal (now_at now e.base) e.stage call ≡ None
    refused_at call e = e
row_urges now e (Took tpdu sum) allowed f =
    if_kept (λ (m : Moved). StageUrges m.base.agreed m.stage) (wants_sum e.base e.stage tpdu && not sum) _ _ (λ _. f) (λ _. tpdu_urges (now_at now e.base) e.stage tpdu f)
row_urges now e Ticked allowed f = tick_urges (now_at now e.base) e.stage f
