-- By cases on the state and the event: what each row tells can be read back, and the end keeps what its halves keep.
use Rattle.std.proofs.Common.{◌≡◌, ◌<◌, ◌≤◌, ℕ, ◌+◌, Bool, true, false, ◌&&◌, ◌==◌, not, nat_lt, nat_le, List, [], length, Option, Some, None, refl, subst, arith, if◌then◌else◌}
use Rattle.std.proofs.lemmas.Bool.{ltb-false}
use Rattle.std.proofs.lemmas.Option.{none-some, same_Some}
use Rattle.law_carrier_answers.specs.Answers.{AreOctets}
use Rattle.tpdu.specs.declared.tpdu.Format.{Format}
use Rattle.tpdu.specs.declared.tpdu.Tpdu.{Tpdu}
use Rattle.tpdu.specs.declared.tpdu.Tpdu.TheVariants.{Cr, Cc, Dr, Dc, Dt, Ed, Ak, Ea, Er}
use Rattle.tpdu.specs.Writing.{IsAllowed}
use Rattle.tp4_number.specs.declared.got.Got.{Got}
use Rattle.tp4_number.specs.declared.got.Got.TheVariants.{TooLarge}
use Rattle.tp4_number.specs.declared.piece.Piece.{Piece}
use Rattle.tp4_number.specs.Formats.{most_of}
use Rattle.tp4_number.proofs.Past.{if_kept}
use Rattle.tp4_flow.specs.ReceivingHalf.{Half, Received, dt_arrival, half_granted, taken_dt, taken_ed}
use Rattle.tp4_flow.specs.declared.rules.Life.{Life as Ends}
use Rattle.tp4_flow.specs.declared.rules.Life.TheVariants.{Goes, Exhausted}
use Rattle.tpdu.specs.declared.service.Options.{Options}
use Rattle.tp4_flow.specs.declared.rules.SubmitRefusal.{SubmitRefusal}
use Rattle.tp4_flow.specs.declared.step.EndEvent.{EndEvent}
use Rattle.tp4_flow.specs.declared.step.Sent.{Sent}
use Rattle.tp4_sending.specs.SendingHalf.{FlowSender, Sendings, at, life_of, opened, refusal}
use Rattle.tp4_conn.specs.declared.end_record.EndRecord.{EndRecord}
use Rattle.tp4_conn.specs.declared.call.CallRefusal.{CallRefusal}
use Rattle.tp4_conn.specs.declared.call.CallRefusal.TheVariants as refused
use Rattle.tp4_conn.specs.declared.call.ConnectCall.{ConnectCall}
use Rattle.tp4_conn.specs.declared.call.UserCall.{UserCall}
use Rattle.tp4_conn.specs.declared.call.UserCall.TheVariants.{Accept, Refuse, Normal, Urgent, Window, Disconnect}
use Rattle.tp4_conn.specs.declared.halves.Halves.{Halves}
use Rattle.tp4_conn.specs.declared.states.InAkWait.{InAkWait}
use Rattle.tp4_conn.specs.declared.states.InOpened.{InOpened}
use Rattle.tp4_conn.specs.declared.states.InWaitBeforeClose.{InWaitBeforeClose}
use Rattle.tp4_conn.specs.declared.states.InClosing.{InClosing}
use Rattle.tp4_conn.specs.declared.states.InCrWait.{InCrWait}
use Rattle.tp4_conn.specs.declared.states.StateData.{StateData}
use Rattle.tp4_conn.specs.declared.states.StateData.TheVariants.{CrWait, WaitBeforeClose, UserWait, AkWait, Opened, Closing, Frozen}
use Rattle.tp4_conn.specs.declared.timers.Timers.{Timers}
use Rattle.tp4_conn.specs.Agreeing.{agreed_by, halves_of, is_within, options_in, proposed_in}
use Rattle.tp4_conn.specs.AkWait.{ak_wait_tick, ak_wait_tpdu, opening}
use Rattle.tp4_conn.specs.Calls.{IsCall, call_refusal, is_listed, listed_refusal, normal_refusal, sending_of, state_of, unit_refusal}
use Rattle.tp4_conn.specs.Closing.{closing_tick, closing_tpdu}
use Rattle.tp4_conn.specs.CrWait.{confirmed, cr_wait_tick, cr_wait_tpdu}
use Rattle.tp4_conn.specs.End.{End, IsProposal, IsSized, Moved, led_by, span}
use Rattle.tp4_conn.specs.Making.{called_end, connected, on_cr}
use Rattle.tp4_conn.specs.Matching.{wants_sum}
use Rattle.tp4_conn.specs.Opened.{dt_as, granting, hearing, is_expedited, on_dt, opened_as, opened_goes, opened_tick, opened_tpdu, receiving, sending}
use Rattle.tp4_conn.specs.Table.{Called, Ticked, Took, on_call, on_tick, on_tpdu, stepped, at as base_at}
use Rattle.tp4_conn.specs.UserWait.{user_wait_accept, user_wait_refuse, user_wait_tick}
use Rattle.tp4_conn.specs.WaitBeforeClose.{wait_before_close_tick, wait_before_close_tpdu}
use Rattle.tp4_conn.proofs.Sizes.{agreed_sized, read_sized}
use Rattle.law_tp4_proper.specs.Octets.{CallInOctets, EndInOctets, HalvesInOctets, HasOctets, IsPair, StageInOctets}
use Rattle.law_tp4_proper.proofs.OctetSends.{granted_in}
use Rattle.law_told.proofs.Sends.{AreToldBy, KeepsOctets, SenderFew, SendsTold, acknowledged_told, clock_few, done_told, dt_keeps, dt_told, ed_keeps, ed_told, few_later, fresh_keeps, grant_keeps, opened_told, submitted_told, ticked_told, told_both, urged_told}

pub record HalvesFew (n : ℕ) (h : Halves) : Type 0 where
  pub sending : SenderFew n h.sending
  pub receiving : KeepsOctets h.receiving

abbrev pub StageFew : ℕ → StateData → Type 0
StageFew n (AkWait w) = HalvesFew n w.halves
StageFew n (Opened o) = HalvesFew n o.halves
StageFew n other = Unit {0}

pub record RowTold (n : ℕ) (m : Moved) : Type 0 where
  pub stage : StageFew n m.stage
  pub events : AreToldBy n m.events

halves_later : (n : ℕ) (h : Halves) → HalvesFew n h → HalvesFew (n + 1) h
halves_later n h k = record { sending = few_later n h.sending k.sending; receiving = k.receiving }

pub stage_later : (n : ℕ) (stage : StateData) → StageFew n stage → StageFew (n + 1) stage
stage_later n (AkWait w) k = halves_later n w.halves k
stage_later n (Opened o) k = halves_later n o.halves k
stage_later n other k = tt

module _ (n : ℕ) where
  row : (b : EndRecord) (stage : StateData) (events : List EndEvent) (tpdus : List Sent) → StageFew n stage → AreToldBy n events → RowTold n (record { base = b; stage = stage; events = events; tpdus = tpdus })
  row b stage events tpdus k told = record { stage = k; events = told }

  led : (events : List EndEvent) (tpdus : List Sent) (m : Moved) → AreToldBy n events → RowTold n m → RowTold n (led_by events tpdus m)
  led events tpdus m first r = record { stage = r.stage; events = told_both n events m.events first r.events }

  sent_few : (h : Halves) (x : Sendings) → HalvesFew n h → SendsTold n x → HalvesFew n (record h { sending = x.sender })
  sent_few h x k s = record { sending = s.sender; receiving = k.receiving }

  got_few : (h : Halves) (half : Half) → HalvesFew n h → KeepsOctets half → HalvesFew n (record h { receiving = half })
  got_few h half k g = record { sending = k.sending; receiving = g }

  fresh_few : (b : EndRecord) (o : Options) → HalvesFew n (halves_of b o)
  fresh_few b o = record { sending = record { normal = omega arith; urgent = omega arith }; receiving = fresh_keeps (most_of o.format) }

  -- ---- Opened

  sending_row : (b : EndRecord) (o : InOpened) (x : Sendings) → HalvesFew n o.halves → SendsTold n x → RowTold n (sending b o x)
  sending_row b o x k s = row b _ _ _ (sent_few o.halves x k s) s.events

  dt_row : (got : Got) (b : EndRecord) (o : InOpened) (r : Received) → HalvesFew n (record o.halves { receiving = r.half }) → AreToldBy n r.events → RowTold n (dt_as got b o r)
  dt_row TooLarge b o r k told = led r.events r.tpdus _ told (row b _ _ _ tt ((tt, tt), tt))
  dt_row other b o r k told = row b _ _ _ k told

  on_dt_row : (wrap : ℕ → ℕ → ℕ) (b : EndRecord) (o : InOpened) (w : ℕ) (piece : Piece) → HalvesFew n o.halves → AreOctets piece.octets → RowTold n (on_dt wrap b o w piece)
  on_dt_row wrap b o w piece k fits =
      let half = o.halves.receiving in
      dt_row (dt_arrival half w piece).got b o (taken_dt wrap half w piece) (got_few o.halves _ k (dt_keeps n wrap half w piece k.receiving fits)) (dt_told n wrap half w piece k.receiving fits)

  on_ed_row : (wrap : ℕ → ℕ → ℕ) (b : EndRecord) (o : InOpened) (w : ℕ) (octets : List ℕ) → HalvesFew n o.halves → AreOctets octets → RowTold n (receiving b o (taken_ed wrap o.halves.receiving w octets))
  on_ed_row wrap b o w octets k fits = row b _ _ _ (got_few o.halves _ k (ed_keeps wrap o.halves.receiving w octets k.receiving)) (ed_told n wrap o.halves.receiving w octets fits)

  opened_tpdu_row : (wrap : ℕ → ℕ → ℕ) (b : EndRecord) (o : InOpened) (tpdu : Tpdu) → HalvesFew n o.halves → HasOctets tpdu → RowTold n (opened_tpdu wrap b o tpdu)
  unfolding opened_tpdu
  opened_tpdu_row wrap b o (Dr destination source reason info text) k t = row b _ _ _ tt ((t.2, t.3), tt)
  opened_tpdu_row wrap b o (Er destination cause rejected) k t = row b _ _ _ tt ((tt, tt), tt)
  opened_tpdu_row wrap b o (Dt destination last number text) k t = on_dt_row wrap b o number (record { last = last; octets = text }) k t.1
  opened_tpdu_row wrap b o (Ed destination last number text) k t =
      if_kept (RowTold n) (is_expedited b.agreed) _ _ (λ _. on_ed_row wrap b o number text k t.1) (λ _. row b _ _ _ tt ((tt, tt), tt))
  opened_tpdu_row wrap b o (Ak destination number credit subsequence confirmation) k t =
      sending_row b o _ k (acknowledged_told n (at b.clock o.halves.sending) number credit subsequence (clock_few n b.clock o.halves.sending k.sending))
  opened_tpdu_row wrap b o (Ea destination number) k t = sending_row b o _ k (done_told n (at b.clock o.halves.sending) number (clock_few n b.clock o.halves.sending k.sending))
  opened_tpdu_row wrap b o other k t = row b _ _ _ k tt

  goes_row : (b : EndRecord) (o : InOpened) (x : Sendings) → HalvesFew n o.halves → SendsTold n x → RowTold n (opened_goes b o x)
  goes_row b o x k s =
      if_kept (RowTold n) (nat_le (o.acked + b.timers.window) b.clock) _ _
      (λ _. led x.events x.tpdus _ s.events (row b _ _ _ (sent_few o.halves x k s) tt))
      (λ _. sending_row b o x k s)

  life_row : (life : Ends) (b : EndRecord) (o : InOpened) → HalvesFew n o.halves → RowTold n (opened_as life b o)
  life_row Exhausted b o k = row b _ _ _ tt ((tt, tt), tt)
  life_row Goes b o k = goes_row b o _ k (ticked_told n (at b.clock o.halves.sending) (clock_few n b.clock o.halves.sending k.sending))

  opened_tick_row : (b : EndRecord) (o : InOpened) → HalvesFew n o.halves → RowTold n (opened_tick b o)
  unfolding opened_tick
  opened_tick_row b o k =
      if_kept (RowTold n) (nat_le (o.took + b.timers.inactive) b.clock) _ _
      (λ _. row b _ _ _ tt ((tt, tt), tt))
      (λ _. life_row (life_of (at b.clock o.halves.sending)) b o k)

  -- ---- a TPDU

  confirmed_row : (b : EndRecord) (o : Options) (octets : List ℕ) → AreOctets octets → IsSized o → RowTold n (confirmed b o octets)
  confirmed_row b o octets fits sized =
      let h = halves_of b o in
      let fresh = fresh_few b o in
      let s = opened_told n (at b.clock h.sending) (clock_few n b.clock h.sending fresh.sending) in
      row b _ _ _ (sent_few h (opened (at b.clock h.sending)) fresh s) ((sized, fits), s.events)

  cr_wait_row : (width : Format) (b : EndRecord) (w : InCrWait) (tpdu : Tpdu) → HasOctets tpdu → IsAllowed width tpdu → RowTold n (cr_wait_tpdu b w tpdu)
  unfolding cr_wait_tpdu
  cr_wait_row width b w (Cc credit destination source format calling called size preferred extra version classes ack_time text) t a =
      if_kept (RowTold n) (is_within b.proposed format size preferred extra) _ _
      (λ _. confirmed_row (record b { partner = source; credit = credit; agreed = Some (options_in format size preferred extra) }) (options_in format size preferred extra) text t.5
      (read_sized format size preferred extra a.size_known a.preferred_known))
      (λ _. row (record b { partner = source }) _ _ _ tt ((tt, tt), tt))
  cr_wait_row width b w (Dr destination source reason info text) t a = row b _ _ _ tt ((t.2, t.3), tt)
  cr_wait_row width b w other t a = row b _ _ _ tt tt

  wait_row : (b : EndRecord) (w : InWaitBeforeClose) (tpdu : Tpdu) → RowTold n (wait_before_close_tpdu b w tpdu)
  unfolding wait_before_close_tpdu
  wait_row b w (Cc credit destination source width calling called size preferred extra version classes ack_time text) = row _ _ _ _ tt tt
  wait_row b w other = row b _ _ _ tt tt

  opening_row : (wrap : ℕ → ℕ → ℕ) (b : EndRecord) (h : Halves) (tpdu : Tpdu) → HalvesFew n h → HasOctets tpdu → RowTold n (opening wrap b h tpdu)
  opening_row wrap b h tpdu k t =
      let x = opened (at b.clock h.sending) in
      let s = opened_told n (at b.clock h.sending) (clock_few n b.clock h.sending k.sending) in
      led x.events x.tpdus _ s.events (opened_tpdu_row wrap b (record { took = b.clock; acked = b.clock; halves = record h { sending = x.sender } }) tpdu (sent_few h x k s) t)

  ak_wait_row : (wrap : ℕ → ℕ → ℕ) (b : EndRecord) (w : InAkWait) (tpdu : Tpdu) → HalvesFew n w.halves → HasOctets tpdu → RowTold n (ak_wait_tpdu wrap b w tpdu)
  unfolding ak_wait_tpdu
  ak_wait_row wrap b w (Ak destination number credit subsequence confirmation) k t = opening_row wrap b w.halves (Ak destination number credit subsequence confirmation) k t
  ak_wait_row wrap b w (Dt destination last number text) k t = opening_row wrap b w.halves (Dt destination last number text) k t
  ak_wait_row wrap b w (Ed destination last number text) k t = opening_row wrap b w.halves (Ed destination last number text) k t
  ak_wait_row wrap b w (Ea destination number) k t = opening_row wrap b w.halves (Ea destination number) k t
  ak_wait_row wrap b w (Dr destination source reason info text) k t = row b _ _ _ tt ((t.2, t.3), tt)
  ak_wait_row wrap b w (Er destination cause rejected) k t = row b _ _ _ tt ((tt, tt), tt)
  ak_wait_row wrap b w other k t = row b _ _ _ k tt

  closing_tpdu_row : (b : EndRecord) (c : InClosing) (tpdu : Tpdu) → RowTold n (closing_tpdu b c tpdu)
  unfolding closing_tpdu
  closing_tpdu_row b c (Dc destination source) = row b _ _ _ tt tt
  closing_tpdu_row b c other = row b _ _ _ tt tt

  tpdu_row : (wrap : ℕ → ℕ → ℕ) (width : Format) (b : EndRecord) (stage : StateData) (tpdu : Tpdu) → StageFew n stage → HasOctets tpdu → IsAllowed width tpdu → RowTold n (on_tpdu wrap b stage tpdu)
  tpdu_row wrap width b (CrWait w) tpdu k t a = cr_wait_row width b w tpdu t a
  tpdu_row wrap width b (WaitBeforeClose w) tpdu k t a = wait_row b w tpdu
  tpdu_row wrap width b (AkWait w) tpdu k t a = ak_wait_row wrap b w tpdu k t
  tpdu_row wrap width b (Opened o) tpdu k t a = opened_tpdu_row wrap b (hearing b o) tpdu k t
  tpdu_row wrap width b (Closing c) tpdu k t a = closing_tpdu_row b c tpdu
  tpdu_row wrap width b other tpdu k t a = row b _ _ _ tt tt

  -- ---- a tick

  tick_row : (b : EndRecord) (stage : StateData) → StageFew n stage → RowTold n (on_tick b stage)
  unfolding cr_wait_tick wait_before_close_tick user_wait_tick ak_wait_tick closing_tick
  tick_row b (CrWait w) k =
      if_kept (RowTold n) (nat_lt b.clock (w.tries.last + b.timers.t1)) _ _
      (λ _. row b _ _ _ tt tt)
      (λ _. if_kept (RowTold n) (nat_lt w.tries.count b.timers.sendings) _ _ (λ _. row b _ _ _ tt tt) (λ _. row b _ _ _ tt ((tt, tt), tt)))
  tick_row b (WaitBeforeClose w) k =
      if_kept (RowTold n) (nat_lt b.clock (w.request.tries.last + b.timers.t1)) _ _
      (λ _. row b _ _ _ tt tt)
      (λ _. if_kept (RowTold n) (nat_lt w.request.tries.count b.timers.sendings) _ _ (λ _. row b _ _ _ tt tt) (λ _. row b _ _ _ tt tt))
  tick_row b (UserWait since) k =
      if_kept (RowTold n) (nat_lt b.clock (since + b.timers.inactive)) _ _ (λ _. row b _ _ _ tt tt) (λ _. row b _ _ _ tt ((tt, tt), tt))
  tick_row b (AkWait w) k =
      if_kept (RowTold n) (nat_lt b.clock (w.tries.last + b.timers.t1)) _ _
      (λ _. row b _ _ _ k tt)
      (λ _. if_kept (RowTold n) (nat_lt w.tries.count b.timers.sendings) _ _ (λ _. row b _ _ _ k tt) (λ _. row b _ _ _ tt ((tt, tt), tt)))
  tick_row b (Opened o) k = opened_tick_row b o k
  tick_row b (Closing c) k =
      if_kept (RowTold n) (nat_le (c.from + span b.timers) b.clock) _ _
      (λ _. row b _ _ _ tt tt)
      (λ _. if_kept (RowTold n) (nat_lt b.clock (c.last + b.timers.t1)) _ _ (λ _. row b _ _ _ tt tt) (λ _. row b _ _ _ tt tt))
  tick_row b (Frozen when) k = row b _ _ _ tt tt

-- ---- a call

-- a unit has as many octets as a unit may have, where the call is not refused
abbrev pub IsShort : UserCall → Type 0
IsShort (Normal unit) = length unit ≤ 16384
IsShort call = Unit {0}

no_longer : (s : FlowSender) (octets : ℕ) → unit_refusal (refusal s octets) ≡ None → octets ≤ 16384
no_longer s octets =
    if_kept (λ (why : Option SubmitRefusal). unit_refusal why ≡ None → octets ≤ 16384) (octets == 0) _ _
    (λ _ none. absurd cc)
    (λ _. if_kept (λ (why : Option SubmitRefusal). unit_refusal why ≡ None → octets ≤ 16384) (nat_lt 16384 octets) _ _ (λ _ none. absurd cc) (λ short none. ltb-false 16384 octets short))

listed : (test : Bool) (one : Option CallRefusal) (why : CallRefusal) → (if test then one else Some why) ≡ None → (test ≡ true) × (one ≡ None)
listed true one why h = (refl, h)
listed false one why h = absurd cc

is_short : (b : EndRecord) (stage : StateData) (unit : List ℕ) → is_listed stage (Normal unit) ≡ true → normal_refusal (sending_of stage) (length unit) ≡ None → length unit ≤ 16384
is_short b (AkWait w) unit h none = no_longer w.halves.sending (length unit) none
is_short b (Opened o) unit h none = no_longer o.halves.sending (length unit) none
is_short b other unit h none = absurd cc

pub call_short : (b : EndRecord) (stage : StateData) (call : UserCall) → call_refusal b stage call ≡ None → IsShort call
call_short b stage (Normal unit) h =
    let parts = listed (is_listed stage (Normal unit)) (listed_refusal b stage (Normal unit)) (refused.WrongState (state_of stage)) h in is_short b stage unit parts.0 parts.1
call_short b stage other h = tt

-- the events of a call come first, and count
abbrev pub after_call : ℕ → UserCall → ℕ
after_call n (Accept options octets) = n
after_call n (Window credit) = n
after_call n other = n + 1

pub stage_after : (n : ℕ) (call : UserCall) (stage : StateData) → StageFew n stage → StageFew (after_call n call) stage
stage_after n (Accept options octets) stage k = k
stage_after n (Window credit) stage k = k
stage_after n other stage k = stage_later n stage k

module _ (is_address : List ℕ → Bool) (n : ℕ) where
  granting_row : (b : EndRecord) (o : InOpened) (credit : ℕ) → HalvesInOctets is_address o.halves → HalvesFew n o.halves → RowTold n (granting b o (half_granted o.halves.receiving credit))
  granting_row b o credit i k =
      let new = half_granted o.halves.receiving credit in
      let g = granted_in is_address o.halves.receiving credit i.receiving in
      let keeps = grant_keeps o.halves.receiving credit k.receiving in
      if_kept (RowTold n) (new.receiver.inbox.credit == o.halves.receiving.receiver.inbox.credit) _ _
      (λ _. row n b _ _ _ (got_few n o.halves new k keeps) (g.credit, tt))
      (λ _. row n b _ _ _ (got_few n o.halves new k keeps) (g.credit, tt))

  waiting_row : (b : EndRecord) (w : InAkWait) (x : Sendings) → HalvesFew (n + 1) w.halves → SendsTold (n + 1) x
      → RowTold (n + 1) (record { base = b; stage = AkWait (record w { halves = record w.halves { sending = x.sender } }); events = x.events; tpdus = x.tpdus })
  waiting_row b w x k s = row (n + 1) b _ _ _ (sent_few (n + 1) w.halves x k s) s.events

  accepted_row : (b : EndRecord) (asked : Options) (octets : List ℕ) → IsProposal b.proposed → IsSized asked → AreOctets octets → RowTold n (user_wait_accept b asked octets)
  unfolding user_wait_accept
  accepted_row b asked octets proposal sized fits =
      row n (record b { agreed = Some (agreed_by b.proposed asked) }) _ _ _ (fresh_few n (record b { agreed = Some (agreed_by b.proposed asked) }) (agreed_by b.proposed asked))
      ((agreed_sized b.proposed asked proposal sized, fits), tt)

  refused_row : (b : EndRecord) (octets : List ℕ) → RowTold (n + 1) (user_wait_refuse b octets)
  unfolding user_wait_refuse
  refused_row b octets = row (n + 1) b _ _ _ tt tt

  call_row : (b : EndRecord) (stage : StateData) (call : UserCall) → StageInOctets is_address stage → IsProposal b.proposed → StageFew n stage → CallInOctets is_address call → IsCall call → IsShort call
      → RowTold (after_call n call) (on_call b stage call)
  call_row b (CrWait w) (Disconnect octets) i p k c is short = row (n + 1) b _ _ _ tt tt
  call_row b (CrWait w) other i p k c is short = row (after_call n other) b _ _ _ tt tt
  call_row b (UserWait since) (Accept asked octets) i p k c is short = accepted_row b asked octets p is c
  call_row b (UserWait since) (Refuse octets) i p k c is short = refused_row b octets
  call_row b (UserWait since) other i p k c is short = row (after_call n other) b _ _ _ tt tt
  call_row b (AkWait w) (Normal unit) i p k c is short =
      waiting_row b w _ (halves_later n w.halves k) (submitted_told n (at b.clock w.halves.sending) unit short (clock_few n b.clock w.halves.sending k.sending))
  call_row b (AkWait w) (Urgent unit) i p k c is short =
      waiting_row b w _ (halves_later n w.halves k) (urged_told n (at b.clock w.halves.sending) unit (clock_few n b.clock w.halves.sending k.sending))
  call_row b (AkWait w) (Disconnect octets) i p k c is short = row (n + 1) b _ _ _ tt tt
  call_row b (AkWait w) other i p k c is short = row (after_call n other) b _ _ _ (stage_after n other (AkWait w) k) tt
  call_row b (Opened o) (Normal unit) i p k c is short =
      sending_row (n + 1) b o _ (halves_later n o.halves k) (submitted_told n (at b.clock o.halves.sending) unit short (clock_few n b.clock o.halves.sending k.sending))
  call_row b (Opened o) (Urgent unit) i p k c is short =
      sending_row (n + 1) b o _ (halves_later n o.halves k) (urged_told n (at b.clock o.halves.sending) unit (clock_few n b.clock o.halves.sending k.sending))
  call_row b (Opened o) (Window credit) i p k c is short = granting_row b o credit i k
  call_row b (Opened o) (Disconnect octets) i p k c is short = row (n + 1) b _ _ _ tt tt
  call_row b (Opened o) other i p k c is short = row (after_call n other) b _ _ _ (stage_after n other (Opened o) k) tt
  call_row b other call i p k c is short = row (after_call n call) b _ _ _ tt tt

  -- ---- one end

  pub called_told : (wrap : ℕ → ℕ → ℕ) (now : ℕ) (e : End) (call : UserCall) → EndInOctets is_address e → IsProposal e.base.proposed → StageFew n e.stage → CallInOctets is_address call → IsCall call
      → call_refusal e.base e.stage call ≡ None → RowTold (after_call n call) (stepped wrap now e (Called call))
  called_told wrap now e call i p k c is none = call_row (base_at now e.base) e.stage call i.stage p k c is (call_short e.base e.stage call none)

pub took_told : (n : ℕ) (wrap : ℕ → ℕ → ℕ) (now : ℕ) (width : Format) (e : End) (tpdu : Tpdu) (sum : Bool) → StageFew n e.stage → HasOctets tpdu → IsAllowed width tpdu
    → RowTold n (stepped wrap now e (Took tpdu sum))
took_told n wrap now width e tpdu sum k t a =
    if_kept (RowTold n) (wants_sum e.base e.stage tpdu && not sum) _ _
    (λ _. row n e.base e.stage _ [] k (omega arith, tt))
    (λ _. tpdu_row n wrap width (base_at now e.base) e.stage tpdu k t a)

pub ticked_end_told : (n : ℕ) (wrap : ℕ → ℕ → ℕ) (now : ℕ) (e : End) → StageFew n e.stage → RowTold n (stepped wrap now e Ticked)
ticked_end_told n wrap now e k = tick_row n (base_at now e.base) e.stage k

-- ---- an end that is made

pub connected_told : (n now : ℕ) (call : ConnectCall) → RowTold n (connected now call)
connected_told n now call = record { stage = tt; events = tt }

pub indicated_told : (n now own : ℕ) (width : Format) (from : List ℕ) (rules : Timers) (tpdu : Tpdu) (m : Moved) → IsPair own → AreOctets from → 0 < length from → HasOctets tpdu → IsAllowed width tpdu
    → on_cr now own from rules tpdu ≡ Some m → RowTold n m
indicated_told n now own width from rules (Cr credit source format calling called size preferred extra version classes ack_time text) m low address some t a e =
    subst (RowTold n) (same_Some _ _ e)
    (row n (called_end now own from rules credit source calling called (proposed_in format size preferred extra)) _ _ [] tt
    ((low, t.0, address, some, t.1, t.2, read_sized format size preferred extra a.size_known a.preferred_known, t.4), tt))
indicated_told n now own width from rules other m low address some t a e = absurd (none-some _ e)
