-- The rows of the states without halves, and those by which AkWait stays, for whatever holds of each outcome without halves: it is owed only where
-- halves begin, wait or go on (X.224, class 4 state tables).
use Rattle.std.specs.Prelude.{nat_le, nat_lt}
use Rattle.std.proofs.Common.{◌+◌, ℕ, List, [], Some}
use Rattle.tpdu.specs.declared.service.Options.{Options}
use Rattle.tpdu.specs.declared.tpdu.Tpdu.{Tpdu}
use Rattle.tpdu.specs.declared.tpdu.Tpdu.TheVariants.{Cc, Dr, Dc, Dt, Ed, Ak, Ea, Er}
use Rattle.tp4_number.proofs.Past.{if_kept}
use Rattle.tp4_sending.specs.Pieces.{again}
use Rattle.tp4_conn.specs.declared.call.UserCall.{UserCall}
use Rattle.tp4_conn.specs.declared.call.UserCall.TheVariants.{Accept}
use Rattle.tp4_conn.specs.declared.end_record.EndRecord.{EndRecord}
use Rattle.tp4_conn.specs.declared.states.InAkWait.{InAkWait}
use Rattle.tp4_conn.specs.declared.states.InClosing.{InClosing}
use Rattle.tp4_conn.specs.declared.states.InCrWait.{InCrWait}
use Rattle.tp4_conn.specs.declared.states.InWaitBeforeClose.{InWaitBeforeClose}
use Rattle.tp4_conn.specs.declared.states.StateData.{StateData}
use Rattle.tp4_conn.specs.declared.states.StateData.TheVariants.{CrWait, WaitBeforeClose, UserWait, AkWait, Opened, Closing, Frozen}
use Rattle.tp4_conn.specs.Agreeing.{agreed_by, confirms_again, is_within, options_in}
use Rattle.tp4_conn.specs.AkWait.{ak_wait_tick, ak_wait_tpdu, opening}
use Rattle.tp4_conn.specs.Closing.{closing_tick, closing_tpdu}
use Rattle.tp4_conn.specs.CrWait.{confirmed, cr_wait_tick, cr_wait_tpdu}
use Rattle.tp4_conn.specs.End.{Moved, span, stays}
use Rattle.tp4_conn.specs.Table.{on_call, on_tick, on_tpdu}
use Rattle.tp4_conn.specs.UserWait.{accepted, user_wait_accept, user_wait_refuse, user_wait_tick}
use Rattle.tp4_conn.specs.WaitBeforeClose.{wait_before_close_tick, wait_before_close_tpdu}

-- a state without halves
abbrev pub HasNone : StateData → Type 0
HasNone (AkWait w) = ⊥
HasNone (Opened o) = ⊥
HasNone stage = Prim.Unit {0}

-- what a CC that is within what was proposed, and an accept, begin
module _ (b : EndRecord) (Row : Moved → Type 0) where
  abbrev pub Opens : Type 0
  Opens = (source given : ℕ) (options : Options) (text : List ℕ) → Row (confirmed (record b { partner = source; credit = given; agreed = Some options }) options text)

  abbrev pub OpensBy : Tpdu → Type 0
  OpensBy (Cc given destination source width calling called size preferred extra version classes ack_time text) =
      Row (confirmed (record b { partner = source; credit = given; agreed = Some (options_in width size preferred extra) }) (options_in width size preferred extra) text)
  OpensBy other = Prim.Unit {0}

  abbrev pub OpensIn : StateData → Tpdu → Type 0
  OpensIn (CrWait w) tpdu = OpensBy tpdu
  OpensIn stage tpdu = Prim.Unit {0}

  abbrev pub Accepts : Type 0
  Accepts = (asked : Options) (octets : List ℕ) → Row (accepted (record b { agreed = Some (agreed_by b.proposed asked) }) (agreed_by b.proposed asked) octets)

  abbrev pub AcceptsIn : StateData → Type 0
  AcceptsIn (UserWait since) = Accepts
  AcceptsIn stage = Prim.Unit {0}

  opens_by : Opens → (tpdu : Tpdu) → OpensBy tpdu
  opens_by opens (Cc given destination source width calling called size preferred extra version classes ack_time text) = opens source given (options_in width size preferred extra) text
  opens_by opens other = tt

  pub opens_in : Opens → (stage : StateData) (tpdu : Tpdu) → OpensIn stage tpdu
  opens_in opens (CrWait w) tpdu = opens_by opens tpdu
  opens_in opens other tpdu = tt

  pub accepts_in : Accepts → (stage : StateData) → AcceptsIn stage
  accepts_in accepts (UserWait since) = accepts
  accepts_in accepts other = tt

module _ (wrap : ℕ → ℕ → ℕ) (b : EndRecord) (Row : Moved → Type 0) (without : (m : Moved) → HasNone m.stage → Row m) where
  pub cr_wait_row : (w : InCrWait) (tpdu : Tpdu) → OpensBy b Row tpdu → Row (cr_wait_tpdu b w tpdu)
  unfolding cr_wait_tpdu
  cr_wait_row w (Cc given destination source width calling called size preferred extra version classes ack_time text) opens =
      if_kept Row (is_within b.proposed width size preferred extra) _ _ (λ _. opens) (λ _. without _ tt)
  cr_wait_row w other opens = without _ tt

  cr_wait_later : (w : InCrWait) → Row (cr_wait_tick b w)
  unfolding cr_wait_tick
  cr_wait_later w =
      if_kept Row (nat_lt b.clock (w.tries.last + b.timers.t1)) _ _ (λ _. without _ tt)
      (λ _. if_kept Row (nat_lt w.tries.count b.timers.sendings) _ _ (λ _. without _ tt) (λ _. without _ tt))

  parting_row : (w : InWaitBeforeClose) (tpdu : Tpdu) → Row (wait_before_close_tpdu b w tpdu)
  unfolding wait_before_close_tpdu
  parting_row w (Cc given destination source width calling called size preferred extra version classes ack_time text) = without _ tt
  parting_row w other = without _ tt

  parting_later : (w : InWaitBeforeClose) → Row (wait_before_close_tick b w)
  unfolding wait_before_close_tick
  parting_later w =
      if_kept Row (nat_lt b.clock (w.request.tries.last + b.timers.t1)) _ _ (λ _. without _ tt)
      (λ _. if_kept Row (nat_lt w.request.tries.count b.timers.sendings) _ _ (λ _. without _ tt) (λ _. without _ tt))

  user_wait_later : (since : ℕ) → Row (user_wait_tick b since)
  unfolding user_wait_tick
  user_wait_later since = if_kept Row (nat_lt b.clock (since + b.timers.inactive)) _ _ (λ _. without _ tt) (λ _. without _ tt)

  closing_row : (c : InClosing) (tpdu : Tpdu) → Row (closing_tpdu b c tpdu)
  unfolding closing_tpdu
  closing_row c (Dc destination source) = without _ tt
  closing_row c other = without _ tt

  closing_later : (c : InClosing) → Row (closing_tick b c)
  unfolding closing_tick
  closing_later c =
      if_kept Row (nat_le (c.from + span b.timers) b.clock) _ _ (λ _. without _ tt)
      (λ _. if_kept Row (nat_lt b.clock (c.last + b.timers.t1)) _ _ (λ _. without _ tt) (λ _. without _ tt))

  cr_wait_call : (w : InCrWait) (call : UserCall) → Row (on_call b (CrWait w) call)
  cr_wait_call w (Accept options octets) = without _ tt
  cr_wait_call w other = without _ tt

  pub user_wait_call : (since : ℕ) (call : UserCall) → Accepts b Row → Row (on_call b (UserWait since) call)
  unfolding user_wait_accept user_wait_refuse
  user_wait_call since (Accept asked octets) accepts = accepts asked octets
  user_wait_call since other accepts = without _ tt

  -- ---- a TPDU, a tick, a call at such a state

  pub tpdu_without : (stage : StateData) → HasNone stage → (tpdu : Tpdu) → OpensIn b Row stage tpdu → Row (on_tpdu wrap b stage tpdu)
  tpdu_without (CrWait w) none tpdu opens = cr_wait_row w tpdu opens
  tpdu_without (WaitBeforeClose w) none tpdu opens = parting_row w tpdu
  tpdu_without (AkWait w) none tpdu opens = absurd none
  tpdu_without (Opened o) none tpdu opens = absurd none
  tpdu_without (Closing c) none tpdu opens = closing_row c tpdu
  tpdu_without other none tpdu opens = without _ tt

  pub tick_without : (stage : StateData) → HasNone stage → Row (on_tick b stage)
  tick_without (CrWait w) none = cr_wait_later w
  tick_without (WaitBeforeClose w) none = parting_later w
  tick_without (UserWait since) none = user_wait_later since
  tick_without (Closing c) none = closing_later c
  tick_without (Frozen when) none = without _ tt
  tick_without other none = absurd none

  pub call_without : (stage : StateData) → HasNone stage → (call : UserCall) → AcceptsIn b Row stage → Row (on_call b stage call)
  call_without (CrWait w) none call accepts = cr_wait_call w call
  call_without (UserWait since) none call accepts = user_wait_call since call accepts
  call_without (AkWait w) none call accepts = absurd none
  call_without (Opened o) none call accepts = absurd none
  call_without other none call accepts = without _ tt

  -- ---- AkWait: it stays, or opens with what came

  pub ak_wait_row : (w : InAkWait) → Row (stays b (AkWait w)) → (tpdu : Tpdu) → Row (opening wrap b w.halves tpdu) → Row (ak_wait_tpdu wrap b w tpdu)
  unfolding ak_wait_tpdu
  ak_wait_row w still (Ak destination number given subsequence confirmation) opens = opens
  ak_wait_row w still (Dt destination last number text) opens = opens
  ak_wait_row w still (Ed destination last number text) opens = opens
  ak_wait_row w still (Ea destination number) opens = opens
  ak_wait_row w still (Dr destination source reason info text) opens = without _ tt
  ak_wait_row w still (Er destination cause rejected) opens = without _ tt
  ak_wait_row w still other opens = still

  pub ak_wait_later : (w : InAkWait) → Row (stays b (AkWait w))
      → Row (record { base = b; stage = AkWait (record w { tries = again b.clock w.tries }); events = []; tpdus = confirms_again b b.agreed w.octets }) → Row (ak_wait_tick b w)
  unfolding ak_wait_tick
  ak_wait_later w still sent =
      if_kept Row (nat_lt b.clock (w.tries.last + b.timers.t1)) _ _ (λ _. still)
      (λ _. if_kept Row (nat_lt w.tries.count b.timers.sendings) _ _ (λ _. sent) (λ _. without _ tt))
