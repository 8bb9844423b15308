-- Each row of an end: it tries, acknowledges and takes nothing later than now, and its receiving half keeps its places.
use Rattle.std.proofs.Common.{◌≡◌, ◌≤◌, ℕ, ◌+◌, ◌==◌, ◌&&◌, not, nat_le, List, [], ◌∷◌, Option, Some, None, refl, sym, ◌∙◌, arith}
use Rattle.tpdu.specs.declared.tpdu.Tpdu.{Tpdu}
use Rattle.tpdu.specs.declared.tpdu.Tpdu.TheVariants.{Cr, Cc, Dc, Dt, Ed, Ak, Ea}
use Rattle.tp4_number.specs.declared.got.Got.{Got}
use Rattle.tp4_number.specs.declared.got.Got.TheVariants.{Kept, Old, Outside, TooLarge}
use Rattle.tp4_number.specs.declared.piece.Piece.{Piece}
use Rattle.tp4_number.specs.Number.{ahead, whole, wire}
use Rattle.tp4_number.specs.Receiver.{judged}
use Rattle.tp4_number.proofs.Past.{if_kept}
use Rattle.law_recovery_pair.specs.Views.{Wider}
use Rattle.law_recovery_pair.proofs.Older.{older_then}
use Rattle.law_recovery_pair.proofs.Rising.{dt_rises, gives}
use Rattle.tp4_flow.specs.ReceivingHalf.{Half, allowed, block_in, dt_arrival, half_granted, is_next, taken_dt, taken_ed}
use Rattle.tp4_flow.specs.declared.rules.Life.{Life}
use Rattle.tp4_flow.specs.declared.rules.Life.TheVariants.{Goes, Exhausted}
use Rattle.tpdu.specs.declared.service.Options.{Options}
use Rattle.tp4_sending.specs.SendingHalf.{FlowSender, Sendings, at, life_of, opened, ticked}
use Rattle.tp4_sending.specs.declared.tries.Tries.{Tries}
use Rattle.law_recovery_pair.specs.Fitting.{Fits}
use Rattle.law_recovery_pair.proofs.Fitting.{dt_fits, empty_fits, grant_fits}
use Rattle.tp4_conn.specs.declared.call.UserCall.{UserCall}
use Rattle.tp4_conn.specs.declared.call.UserCall.TheVariants.{Normal, Urgent, Window, Disconnect}
use Rattle.tp4_conn.specs.declared.end_record.EndRecord.{EndRecord}
use Rattle.tp4_conn.specs.declared.halves.Halves.{Halves}
use Rattle.tp4_conn.specs.declared.states.InAkWait.{InAkWait}
use Rattle.tp4_conn.specs.declared.states.InOpened.{InOpened}
use Rattle.tp4_conn.specs.declared.states.StateData.{StateData}
use Rattle.tp4_conn.specs.declared.states.StateData.TheVariants.{AkWait, Opened}
use Rattle.tp4_conn.specs.Agreeing.{agreed_by, flow_rules, halves_of}
use Rattle.tp4_conn.specs.AkWait.{opening}
use Rattle.tp4_conn.specs.CrWait.{confirmed}
use Rattle.tp4_conn.specs.End.{End, Moved}
use Rattle.tp4_conn.specs.Matching.{wants_sum}
use Rattle.tp4_conn.specs.Opened.{dt_as, hearing, is_expedited, opened_as, opened_tick, opened_tpdu}
use Rattle.tp4_conn.specs.Table.{Called, Event, Ticked, Took, at as now_at, on_call, on_tick, on_tpdu, stepped}
use Rattle.law_recovery_ends.specs.Due.{AreTriedBy, HasTried, IsTriedBy}
use Rattle.law_recovery_world.specs.Steady.{AreLate, IsRoomy, StageLate, says_of}
use Rattle.law_recovery_world.proofs.Late.{IsBy, acknowledged_by, done_by, opened_by, submitted_by, ticked_by, urged_by}
use Rattle.law_tp4_rows.proofs.RowsWithout.{HasNone, accepts_in, ak_wait_later, ak_wait_row, call_without, opens_in, tick_without, tpdu_without}

-- ---- at a later tick

window_later : (old now : ℕ) (window : List Tries) → old ≤ now → AreTriedBy old window → AreTriedBy now window
window_later old now [] low all = tt
window_later old now (tries ∷ window) low all = (omega (arith, low, all.0), window_later old now window low all.1)

out_later : (old now : ℕ) (out : Option Tries) → old ≤ now → IsTriedBy old out → IsTriedBy now out
out_later old now None low is = tt
out_later old now (Some tries) low is = omega (arith, low, is)

halves_later : (credit old now : ℕ) (h : Halves) → old ≤ now → AreLate credit old h → AreLate credit now h
halves_later credit old now h low l = record { tried = record { window = window_later old now h.sending.window low l.tried.window; urgent = out_later old now h.sending.urgent.out low l.tried.urgent }; fits = l.fits; roomy = l.roomy }

pub stage_later : (credit old now : ℕ) (stage : StateData) → old ≤ now → StageLate credit old stage → StageLate credit now stage
stage_later credit old now (AkWait w) low l = halves_later credit old now w.halves low l
stage_later credit old now (Opened o) low l = (omega (arith, low, l.0), omega (arith, low, l.1), halves_later credit old now o.halves low l.2)
stage_later credit old now other low l = tt

-- ---- rows

module _ (credit : ℕ) (b : EndRecord) (low : b.timers.credit ≤ 15) (gives_it : b.timers.credit ≡ credit) where
  abbrev Row : Moved → Type 0
  Row m = StageLate credit b.clock m.stage

  now_low : b.clock ≤ b.clock
  now_low = omega arith

  clocked : (s : FlowSender) → HasTried b.clock s → IsBy b.clock (at b.clock s)
  clocked s t = record { clock = now_low; tried = record { window = t.window; urgent = t.urgent } }

  with_sender : (h : Halves) (s : FlowSender) → Fits h.receiving → IsRoomy credit h.receiving → IsBy b.clock s → AreLate credit b.clock (record h { sending = s })
  with_sender h s fits roomy by = record { tried = by.tried; fits = fits; roomy = roomy }

  ed_fits : (h : Half) (w : ℕ) (octets : List ℕ) → Fits h → Fits (taken_ed whole h w octets).half
  ed_fits h w octets f = if_kept Fits (is_next h w) _ _ (λ _. record { places = f.places; room = f.room; free = f.free }) (λ _. f)

  ed_roomy : (h : Half) (w : ℕ) (octets : List ℕ) → IsRoomy credit h → IsRoomy credit (taken_ed whole h w octets).half
  ed_roomy h w octets r = if_kept (IsRoomy credit) (is_next h w) _ _ (λ _. r) (λ _. r)

  dt_roomy : (h : Half) (n : ℕ) (piece : Piece) → IsRoomy credit h → IsRoomy credit (taken_dt whole h n piece).half
  dt_roomy h n piece r =
      let d : ℕ = ahead (block_in h) (wire (block_in h) h.receiver.expected) n in
      older_then (record { number = 0; credit = credit; subsequence = 0 }) (says_of h) (says_of (taken_dt whole h n piece).half) r
      (dt_rises (block_in h) h.receiver d piece (judged (block_in h) h.receiver.inbox d))

  grant_roomy : (h : Half) (granted : ℕ) → IsRoomy credit h → IsRoomy credit (half_granted h granted)
  grant_roomy h granted r =
      older_then (record { number = 0; credit = credit; subsequence = 0 }) (says_of h) (says_of (half_granted h granted)) r
      (gives h.receiver (allowed h.rules.format granted) (allowed h.rules.format granted) (omega arith)).risen

  module _ (o : InOpened) (took : o.took ≤ b.clock) (acked : o.acked ≤ b.clock) (l : AreLate credit b.clock o.halves) where
    opened_late : (tpdu : Tpdu) → Row (opened_tpdu whole b o tpdu)
    unfolding opened_tpdu
    opened_late (Cc given destination source width calling called size preferred extra version classes ack_time text) = (took, now_low, l)
    opened_late (Dt destination last number text) =
        let piece : Piece = record { last = last; octets = text } in
        by number piece (dt_arrival o.halves.receiving number piece).got refl
      where
        kept : (number : ℕ) (piece : Piece) → ((dt_arrival o.halves.receiving number piece).got ≡ TooLarge → ⊥) → AreLate credit b.clock (record o.halves { receiving = (taken_dt whole o.halves.receiving number piece).half })
        kept number piece small = record { tried = l.tried; fits = dt_fits o.halves.receiving number piece small l.fits; roomy = dt_roomy o.halves.receiving number piece l.roomy }

        by : (number : ℕ) (piece : Piece) (got : Got) → (dt_arrival o.halves.receiving number piece).got ≡ got → Row (dt_as got b o (taken_dt whole o.halves.receiving number piece))
        by number piece TooLarge is = tt
        by number piece Kept is = (took, now_low, kept number piece (λ large. let clash : Kept ≡ TooLarge = sym is ∙ large in absurd (cc clash)))
        by number piece Old is = (took, now_low, kept number piece (λ large. let clash : Old ≡ TooLarge = sym is ∙ large in absurd (cc clash)))
        by number piece Outside is = (took, now_low, kept number piece (λ large. let clash : Outside ≡ TooLarge = sym is ∙ large in absurd (cc clash)))
    opened_late (Ed destination last number text) =
        if_kept Row (is_expedited b.agreed) _ _ (λ _. (took, acked, record { tried = l.tried; fits = ed_fits o.halves.receiving number text l.fits; roomy = ed_roomy o.halves.receiving number text l.roomy })) (λ _. tt)
    opened_late (Ak destination number given subsequence confirmation) =
        (took, acked, with_sender o.halves _ l.fits l.roomy (acknowledged_by b.clock (at b.clock o.halves.sending) number given subsequence (clocked o.halves.sending l.tried)))
    opened_late (Ea destination number) = (took, acked, with_sender o.halves _ l.fits l.roomy (done_by b.clock (at b.clock o.halves.sending) number (clocked o.halves.sending l.tried)))
    opened_late (Cr given source width calling called size preferred extra version classes ack_time text) = (took, acked, l)
    opened_late (Dc destination source) = (took, acked, l)
    opened_late other = tt

    opened_later : Row (opened_tick b o)
    unfolding opened_tick
    opened_later =
        if_kept Row (nat_le (o.took + b.timers.inactive) b.clock) _ _ (λ _. tt) (λ _. by (life_of (at b.clock o.halves.sending)))
      where
        sent : AreLate credit b.clock (record o.halves { sending = (ticked (at b.clock o.halves.sending)).sender })
        sent = with_sender o.halves _ l.fits l.roomy (ticked_by b.clock (at b.clock o.halves.sending) (clocked o.halves.sending l.tried))

        by : (life : Life) → Row (opened_as life b o)
        by Exhausted = tt
        by Goes = if_kept Row (nat_le (o.acked + b.timers.window) b.clock) _ _ (λ _. (took, now_low, sent)) (λ _. (took, acked, sent))

    opened_call : (call : UserCall) → Row (on_call b (Opened o) call)
    opened_call (Normal unit) = (took, acked, with_sender o.halves _ l.fits l.roomy (submitted_by b.clock (at b.clock o.halves.sending) unit (clocked o.halves.sending l.tried)))
    opened_call (Urgent unit) = (took, acked, with_sender o.halves _ l.fits l.roomy (urged_by b.clock (at b.clock o.halves.sending) unit (clocked o.halves.sending l.tried)))
    opened_call (Window granted) =
        let new : Half = half_granted o.halves.receiving granted in
        let given : AreLate credit b.clock (record o.halves { receiving = new }) = record { tried = l.tried; fits = grant_fits o.halves.receiving granted l.fits; roomy = grant_roomy o.halves.receiving granted l.roomy } in
        if_kept Row (new.receiver.inbox.credit == o.halves.receiving.receiver.inbox.credit) _ _ (λ _. (took, acked, given)) (λ _. (took, now_low, given))
    opened_call (Disconnect octets) = tt
    opened_call other = (took, acked, l)

  module _ (w : InAkWait) (l : AreLate credit b.clock w.halves) where
    opening_late : (tpdu : Tpdu) → Row (opening whole b w.halves tpdu)
    opening_late tpdu =
        let s : Sendings = opened (at b.clock w.halves.sending) in
        let o : InOpened = record { took = b.clock; acked = b.clock; halves = record w.halves { sending = s.sender } } in
        opened_late o now_low now_low (with_sender w.halves _ l.fits l.roomy (opened_by b.clock (at b.clock w.halves.sending) (clocked w.halves.sending l.tried))) tpdu

    ak_wait_call : (call : UserCall) → Row (on_call b (AkWait w) call)
    ak_wait_call (Normal unit) = with_sender w.halves _ l.fits l.roomy (submitted_by b.clock (at b.clock w.halves.sending) unit (clocked w.halves.sending l.tried))
    ak_wait_call (Urgent unit) = with_sender w.halves _ l.fits l.roomy (urged_by b.clock (at b.clock w.halves.sending) unit (clocked w.halves.sending l.tried))
    ak_wait_call (Disconnect octets) = tt
    ak_wait_call other = l

  -- of a state without halves nothing is asked
  none_late : (m : Moved) → HasNone m.stage → Row m
  none_late m none = by m.stage none
    where
      by : (stage : StateData) → HasNone stage → StageLate credit b.clock stage
      by (AkWait w) none = absurd none
      by (Opened o) none = absurd none
      by other none = tt

  -- halves that begin
  begun_late : (c : EndRecord) (options : Options) → c.timers.credit ≤ 15 → c.timers.credit ≡ credit → AreLate credit b.clock (halves_of c options)
  begun_late c options few same = record { tried = record { window = tt; urgent = tt }; fits = empty_fits (flow_rules c options) c.timers.credit few; roomy = Wider refl refl (omega (arith, same)) }

  opens_late : (source given : ℕ) (options : Options) (text : List ℕ) → Row (confirmed (record b { partner = source; credit = given; agreed = Some options }) options text)
  opens_late source given options text =
      let h : Halves = halves_of (record b { partner = source; credit = given; agreed = Some options }) options in
      let begun : AreLate credit b.clock h = begun_late (record b { partner = source; credit = given; agreed = Some options }) options low gives_it in
      (now_low, now_low, with_sender h _ begun.fits begun.roomy (opened_by b.clock (at b.clock h.sending) (clocked h.sending begun.tried)))

  -- ---- all rows

  tpdu_late : (stage : StateData) (tpdu : Tpdu) → StageLate credit b.clock stage → Row (on_tpdu whole b stage tpdu)
  tpdu_late (AkWait w) tpdu l = ak_wait_row whole b Row none_late w l tpdu (opening_late w l tpdu)
  tpdu_late (Opened o) tpdu l = opened_late (hearing b o) now_low l.1 l.2 tpdu
  tpdu_late other tpdu l = tpdu_without whole b Row none_late other tt tpdu (opens_in b Row opens_late other tpdu)

  tick_late : (stage : StateData) → StageLate credit b.clock stage → Row (on_tick b stage)
  tick_late (AkWait w) l = ak_wait_later whole b Row none_late w l l
  tick_late (Opened o) l = opened_later o l.0 l.1 l.2
  tick_late other l = tick_without whole b Row none_late other tt

  call_late : (stage : StateData) (call : UserCall) → StageLate credit b.clock stage → Row (on_call b stage call)
  call_late (AkWait w) call l = ak_wait_call w l call
  call_late (Opened o) call l = opened_call o l.0 l.1 l.2 call
  call_late other call l =
      call_without whole b Row none_late other tt call
      (accepts_in b Row (λ asked octets. begun_late (record b { agreed = Some (agreed_by b.proposed asked) }) (agreed_by b.proposed asked) low gives_it) other)

pub row_late : (credit now : ℕ) (e : End) (event : Event) → e.base.timers.credit ≤ 15 → e.base.timers.credit ≡ credit → StageLate credit now e.stage → StageLate credit now (stepped whole now e event).stage
row_late credit now e (Called call) low same l = call_late credit (now_at now e.base) low same e.stage call l
row_late credit now e (Took tpdu sum) low same l =
    if_kept (λ (m : Moved). StageLate credit now m.stage) (wants_sum e.base e.stage tpdu && not sum) _ _ (λ _. l) (λ _. tpdu_late credit (now_at now e.base) low same e.stage tpdu l)
row_late credit now e Ticked low same l = tick_late credit (now_at now e.base) low same e.stage l
