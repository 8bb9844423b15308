-- An end in AkWait keeps its halves as they were made when its user accepted, but for units that wait, and its clock; and it sent its CC no later than now.
use Rattle.std.specs.Prelude.{not}
use Rattle.std.proofs.Common.{◌≤◌, ◌+◌, ◌++◌, ◌==◌, ◌&&◌, ℕ, nat_le, List, [], ◌∷◌, Some, refl, sym, subst, arith}
use Rattle.tpdu.specs.declared.service.Options.{Options}
use Rattle.tpdu.specs.declared.tpdu.Tpdu.{Tpdu}
use Rattle.tpdu.specs.declared.tpdu.Tpdu.TheVariants.{Dt, Ed}
use Rattle.tp4_number.specs.Number.{whole}
use Rattle.tp4_number.specs.declared.got.Got.{Got}
use Rattle.tp4_number.specs.declared.got.Got.TheVariants.{TooLarge}
use Rattle.tp4_number.specs.declared.piece.Piece.{Piece}
use Rattle.tp4_number.proofs.Past.{if_kept}
use Rattle.tp4_flow.specs.ReceivingHalf.{dt_arrival, half_granted, taken_dt}
use Rattle.tp4_flow.specs.declared.rules.Life.{Life}
use Rattle.tp4_flow.specs.declared.rules.Life.TheVariants.{Goes, Exhausted}
use Rattle.tp4_sending.specs.SendingHalf.{at, life_of, opened, submitted, urged}
use Rattle.tp4_conn.specs.declared.call.UserCall.{UserCall}
use Rattle.tp4_conn.specs.declared.call.UserCall.TheVariants.{Normal, Urgent, Window, Disconnect}
use Rattle.tp4_conn.specs.declared.end_record.EndRecord.{EndRecord}
use Rattle.tp4_conn.specs.declared.halves.Halves.{Halves}
use Rattle.tp4_conn.specs.declared.states.InAkWait.{InAkWait}
use Rattle.tp4_conn.specs.declared.states.InOpened.{InOpened}
use Rattle.tp4_conn.specs.declared.states.StateData.{StateData}
use Rattle.tp4_conn.specs.declared.states.StateData.TheVariants.{AkWait, Opened}
use Rattle.tp4_conn.specs.Agreeing.{agreed_by}
use Rattle.tp4_conn.specs.AkWait.{opening}
use Rattle.tp4_conn.specs.End.{End, Moved}
use Rattle.tp4_conn.specs.Matching.{wants_sum}
use Rattle.tp4_conn.specs.Opened.{dt_as, hearing, is_expedited, opened_as, opened_tick, opened_tpdu}
use Rattle.tp4_conn.specs.Table.{Called, Event, Ticked, Took, at as now_at, on_call, on_tick, on_tpdu, stepped}
use Rattle.tp4_conn.specs.UserWait.{accepted}
use Rattle.law_recovery_world.specs.Steady.{IsMade, StageMade}
use Rattle.law_tp4_rows.proofs.RowsWithout.{HasNone, accepts_in, ak_wait_later, ak_wait_row, call_without, opens_in, tick_without, tpdu_without}

-- the clock of an end is no part of it
made_at : (now : ℕ) (b : EndRecord) (h : Halves) → IsMade b h → IsMade (now_at now b) h
made_at now b h m = record { options = m.options; agreed = m.agreed; clock = m.clock; units = m.units; expedited = m.expedited; halves = m.halves }

stage_at : (now : ℕ) (b : EndRecord) (stage : StateData) → StageMade now b stage → StageMade now (now_at now b) stage
stage_at now b (AkWait w) m = (m.0, made_at now b w.halves m.1)
stage_at now b other m = tt

-- nor is a later tick
pub made_later : (now later : ℕ) (b : EndRecord) (stage : StateData) → now ≤ later → StageMade now b stage → StageMade later b stage
made_later now later b (AkWait w) low m = (omega (arith, low, m.0), m.1)
made_later now later b other low m = tt

module _ (b : EndRecord) where
  abbrev Row : Moved → Type 0
  Row m = StageMade b.clock m.base m.stage

  -- ---- Opened

  module _ (o : InOpened) where
    dt_made : (got : Got) (w : ℕ) (piece : Piece) → Row (dt_as got b o (taken_dt whole o.halves.receiving w piece))
    dt_made TooLarge w piece = tt
    dt_made other w piece = tt

    opened_made : (tpdu : Tpdu) → Row (opened_tpdu whole b o tpdu)
    unfolding opened_tpdu
    opened_made (Dt destination last number text) = dt_made (dt_arrival o.halves.receiving number (record { last = last; octets = text })).got number (record { last = last; octets = text })
    opened_made (Ed destination last number text) = if_kept Row (is_expedited b.agreed) _ _ (λ _. tt) (λ _. tt)
    opened_made other = tt

    opened_later : Row (opened_tick b o)
    unfolding opened_tick
    opened_later = if_kept Row (nat_le (o.took + b.timers.inactive) b.clock) _ _ (λ _. tt) (λ _. by (life_of (at b.clock o.halves.sending)))
      where
        by : (life : Life) → Row (opened_as life b o)
        by Exhausted = tt
        by Goes = if_kept Row (nat_le (o.acked + b.timers.window) b.clock) _ _ (λ _. tt) (λ _. tt)

    opened_call : (call : UserCall) → Row (on_call b (Opened o) call)
    opened_call (Window granted) =
        if_kept Row ((half_granted o.halves.receiving granted).receiver.inbox.credit == o.halves.receiving.receiver.inbox.credit) _ _ (λ _. tt) (λ _. tt)
    opened_call other = tt

  -- ---- AkWait

  module _ (w : InAkWait) (f : StageMade b.clock b (AkWait w)) where
    opening_made : (tpdu : Tpdu) → Row (opening whole b w.halves tpdu)
    opening_made tpdu = opened_made (record { took = b.clock; acked = b.clock; halves = record w.halves { sending = (opened (at b.clock w.halves.sending)).sender } }) tpdu

    normal_made : (unit : List ℕ) → IsMade b (record w.halves { sending = (submitted (at b.clock w.halves.sending) unit).sender })
    normal_made unit = subst (λ (h : Halves). IsMade b (record h { sending = (submitted (at b.clock h.sending) unit).sender })) (sym f.1.halves)
        (record { options = f.1.options; agreed = f.1.agreed; clock = b.clock; units = f.1.units ++ unit ∷ []; expedited = f.1.expedited; halves = refl })

    urgent_made : (unit : List ℕ) → IsMade b (record w.halves { sending = (urged (at b.clock w.halves.sending) unit).sender })
    urgent_made unit = subst (λ (h : Halves). IsMade b (record h { sending = (urged (at b.clock h.sending) unit).sender })) (sym f.1.halves)
        (record { options = f.1.options; agreed = f.1.agreed; clock = b.clock; units = f.1.units; expedited = f.1.expedited ++ unit ∷ []; halves = refl })

    ak_wait_call : (call : UserCall) → Row (on_call b (AkWait w) call)
    ak_wait_call (Normal unit) = (f.0, normal_made unit)
    ak_wait_call (Urgent unit) = (f.0, urgent_made unit)
    ak_wait_call (Disconnect octets) = tt
    ak_wait_call other = f

  -- of a state without halves nothing is asked
  none_made : (m : Moved) → HasNone m.stage → Row m
  none_made m none = by m.stage none
    where
      by : (stage : StateData) → HasNone stage → StageMade b.clock m.base stage
      by (AkWait w) none = absurd none
      by (Opened o) none = absurd none
      by other none = tt

  accepts_made : (asked : Options) (octets : List ℕ) → Row (accepted (record b { agreed = Some (agreed_by b.proposed asked) }) (agreed_by b.proposed asked) octets)
  accepts_made asked octets = (omega arith, record { options = agreed_by b.proposed asked; agreed = refl; clock = 0; units = []; expedited = []; halves = refl })

  -- ---- all rows

  tpdu_made : (stage : StateData) (tpdu : Tpdu) → StageMade b.clock b stage → Row (on_tpdu whole b stage tpdu)
  tpdu_made (AkWait w) tpdu f = ak_wait_row whole b Row none_made w f tpdu (opening_made w f tpdu)
  tpdu_made (Opened o) tpdu f = opened_made (hearing b o) tpdu
  tpdu_made other tpdu f = tpdu_without whole b Row none_made other tt tpdu (opens_in b Row (λ source given options text. tt) other tpdu)

  tick_made : (stage : StateData) → StageMade b.clock b stage → Row (on_tick b stage)
  tick_made (AkWait w) f = ak_wait_later whole b Row none_made w f (omega arith, f.1)
  tick_made (Opened o) f = opened_later o
  tick_made other f = tick_without whole b Row none_made other tt

  call_made : (stage : StateData) (call : UserCall) → StageMade b.clock b stage → Row (on_call b stage call)
  call_made (AkWait w) call f = ak_wait_call w f call
  call_made (Opened o) call f = opened_call o call
  call_made other call f = call_without whole b Row none_made other tt call (accepts_in b Row accepts_made other)

pub row_made : (now : ℕ) (e : End) (event : Event) → StageMade now e.base e.stage → StageMade now (stepped whole now e event).base (stepped whole now e event).stage
row_made now e (Called call) f = call_made (now_at now e.base) e.stage call (stage_at now e.base e.stage f)
row_made now e (Took tpdu sum) f =
    if_kept (λ (m : Moved). StageMade now m.base m.stage) (wants_sum e.base e.stage tpdu && not sum) _ _ (λ _. f) (λ _. tpdu_made (now_at now e.base) e.stage tpdu (stage_at now e.base e.stage f))
row_made now e Ticked f = tick_made (now_at now e.base) e.stage (stage_at now e.base e.stage f)
