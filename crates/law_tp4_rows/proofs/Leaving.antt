-- Each row leaves the whole record of an end, but where an answer comes or is given: a CC sets the reference of the partner, and it and an accept set what is
-- agreed. A state that a row makes frozen is so from the clock on.
use Rattle.std.proofs.Common.{◌≡◌, ℕ, ◌+◌, ◌==◌, Bool, not, ◌&&◌, nat_lt, nat_le, if◌then◌else◌, List, inl, inr, refl, sym, ap, subst}
use Rattle.tpdu.specs.declared.tpdu.Tpdu.{Tpdu}
use Rattle.tpdu.specs.declared.tpdu.Tpdu.TheVariants.{Cc, Dr, Dc, Dt, Ed, Ak, Ea}
use Rattle.tpdu.specs.declared.service.Options.{Options}
use Rattle.tp4_number.specs.declared.got.Got.{Got}
use Rattle.tp4_number.specs.declared.got.Got.TheVariants.{TooLarge}
use Rattle.tp4_number.proofs.Past.{if_kept}
use Rattle.tp4_flow.specs.ReceivingHalf.{Received, dt_arrival, half_granted}
use Rattle.tp4_flow.specs.declared.rules.Life.{Life}
use Rattle.tp4_flow.specs.declared.rules.Life.TheVariants.{Goes, Exhausted}
use Rattle.tp4_sending.specs.SendingHalf.{at, life_of, opened}
use Rattle.tp4_conn.specs.declared.call.UserCall.{UserCall}
use Rattle.tp4_conn.specs.declared.call.UserCall.TheVariants.{Accept, Refuse, Normal, Urgent, Window, Disconnect}
use Rattle.tp4_conn.specs.declared.end_record.EndRecord.{EndRecord}
use Rattle.tp4_conn.specs.declared.halves.Halves.{Halves}
use Rattle.tp4_conn.specs.declared.states.InAkWait.{InAkWait}
use Rattle.tp4_conn.specs.declared.states.InClosing.{InClosing}
use Rattle.tp4_conn.specs.declared.states.InCrWait.{InCrWait}
use Rattle.tp4_conn.specs.declared.states.InOpened.{InOpened}
use Rattle.tp4_conn.specs.declared.states.InWaitBeforeClose.{InWaitBeforeClose}
use Rattle.tp4_conn.specs.declared.states.StateData.{StateData}
use Rattle.tp4_conn.specs.declared.states.StateData.TheVariants.{CrWait, WaitBeforeClose, UserWait, AkWait, Opened, Closing, Frozen}
use Rattle.tp4_conn.specs.Agreeing.{is_within}
use Rattle.tp4_conn.specs.AkWait.{ak_wait_tick, ak_wait_tpdu, opening}
use Rattle.tp4_conn.specs.Closing.{closing_tick, closing_tpdu}
use Rattle.tp4_conn.specs.CrWait.{cr_wait_tick, cr_wait_tpdu}
use Rattle.tp4_conn.specs.End.{End, IsSame, Moved, span, stays}
use Rattle.tp4_conn.specs.Matching.{wants_sum}
use Rattle.tp4_conn.specs.Opened.{dt_as, hearing, is_expedited, opened_as, opened_tick, opened_tpdu, opened_window}
use Rattle.tp4_conn.specs.Table.{Called, Event, Ticked, Took, at as now_at, on_call, on_tick, on_tpdu, stepped}
use Rattle.tp4_conn.specs.UserWait.{user_wait_accept, user_wait_refuse, user_wait_tick}
use Rattle.tp4_conn.specs.WaitBeforeClose.{wait_before_close_tick, wait_before_close_tpdu}
use Rattle.law_tp4_rows.specs.Leaving.{FreezesAt, GoesOn, Leaves}

alike : {b : EndRecord} → IsSame b b
alike {b} = record { own = refl; to = refl; is_called = refl; calling = refl; called = refl; proposed = refl; timers = refl }

-- a row that leaves the whole record, of an end that was not frozen
record Keeps (b : EndRecord) (m : Moved) : Type 0 where
  base : m.base ≡ b
  goes : FreezesAt b.clock m.stage

whole_record : (b : EndRecord) (old : StateData) (m : Moved) → m.base ≡ b → GoesOn b.clock old m.stage → Leaves b.clock b old m
whole_record b old m is goes = record {
  same = subst (IsSame b) (sym is) alike;
  partner = inl (ap (λ (x : EndRecord). x.partner) is);
  agreed = inl (ap (λ (x : EndRecord). x.agreed) is);
  goes = goes;
}

goes_still : (now : ℕ) (stage : StateData) → GoesOn now stage stage
goes_still now (Frozen when) = refl
goes_still now other = tt

module _ (b : EndRecord) where
  either : (test : Bool) (one other : Moved) → Keeps b one → Keeps b other → Keeps b (if test then one else other)
  either test one other h k = if_kept (Keeps b) test one other (λ _. h) (λ _. k)

  dt_keeps : (got : Got) (o : InOpened) (r : Received) → Keeps b (dt_as got b o r)
  dt_keeps TooLarge o r = record { base = refl; goes = tt }
  dt_keeps other o r = record { base = refl; goes = tt }

  closing_keeps : (c : InClosing) (tpdu : Tpdu) → Keeps b (closing_tpdu b c tpdu)
  unfolding closing_tpdu
  closing_keeps c (Dc destination source) = record { base = refl; goes = refl }
  closing_keeps c (Dr destination source cause info text) = record { base = refl; goes = refl }
  closing_keeps c other = record { base = refl; goes = tt }

  cr_wait_later : (w : InCrWait) → Keeps b (cr_wait_tick b w)
  unfolding cr_wait_tick
  cr_wait_later w =
      either (nat_lt b.clock (w.tries.last + b.timers.t1)) _ _ (record { base = refl; goes = tt })
      (either (nat_lt w.tries.count b.timers.sendings) _ _ (record { base = refl; goes = tt }) (record { base = refl; goes = refl }))

  parting_later : (w : InWaitBeforeClose) → Keeps b (wait_before_close_tick b w)
  unfolding wait_before_close_tick
  parting_later w =
      either (nat_lt b.clock (w.request.tries.last + b.timers.t1)) _ _ (record { base = refl; goes = tt })
      (either (nat_lt w.request.tries.count b.timers.sendings) _ _ (record { base = refl; goes = tt }) (record { base = refl; goes = refl }))

  user_wait_later : (since : ℕ) → Keeps b (user_wait_tick b since)
  unfolding user_wait_tick
  user_wait_later since = either (nat_lt b.clock (since + b.timers.inactive)) _ _ (record { base = refl; goes = tt }) (record { base = refl; goes = refl })

  ak_wait_later : (w : InAkWait) → Keeps b (ak_wait_tick b w)
  unfolding ak_wait_tick
  ak_wait_later w =
      either (nat_lt b.clock (w.tries.last + b.timers.t1)) _ _ (record { base = refl; goes = tt })
      (either (nat_lt w.tries.count b.timers.sendings) _ _ (record { base = refl; goes = tt }) (record { base = refl; goes = refl }))

  opened_goes_on : (life : Life) (o : InOpened) → Keeps b (opened_as life b o)
  opened_goes_on Exhausted o = record { base = refl; goes = tt }
  opened_goes_on Goes o = either (nat_le (o.acked + b.timers.window) b.clock) _ _ (record { base = refl; goes = tt }) (record { base = refl; goes = tt })

  opened_later : (o : InOpened) → Keeps b (opened_tick b o)
  unfolding opened_tick
  opened_later o = either (nat_le (o.took + b.timers.inactive) b.clock) _ _ (record { base = refl; goes = tt }) (opened_goes_on (life_of (at b.clock o.halves.sending)) o)

  closing_later : (c : InClosing) → Keeps b (closing_tick b c)
  unfolding closing_tick
  closing_later c =
      either (nat_le (c.from + span b.timers) b.clock) _ _ (record { base = refl; goes = refl })
      (either (nat_lt b.clock (c.last + b.timers.t1)) _ _ (record { base = refl; goes = tt }) (record { base = refl; goes = tt }))

  refused_keeps : (octets : List ℕ) → Keeps b (user_wait_refuse b octets)
  unfolding user_wait_refuse
  refused_keeps octets = record { base = refl; goes = refl }

  window_keeps : (o : InOpened) (credit : ℕ) → Keeps b (opened_window b o credit)
  window_keeps o credit =
      either ((half_granted o.halves.receiving credit).receiver.inbox.credit == o.halves.receiving.receiver.inbox.credit) _ _ (record { base = refl; goes = tt }) (record { base = refl; goes = tt })

  -- ---- where an answer comes or is given

  cr_wait_leaves : (w : InCrWait) (tpdu : Tpdu) → Leaves b.clock b (CrWait w) (cr_wait_tpdu b w tpdu)
  unfolding cr_wait_tpdu
  cr_wait_leaves w (Cc credit destination source width calling called size preferred extra version classes ack_time text) =
      if_kept (Leaves b.clock b (CrWait w)) (is_within b.proposed width size preferred extra) _ _
      (λ _. record { same = record { own = refl; to = refl; is_called = refl; calling = refl; called = refl; proposed = refl; timers = refl }; partner = inr tt; agreed = inr (tt, tt); goes = tt })
      (λ _. record { same = record { own = refl; to = refl; is_called = refl; calling = refl; called = refl; proposed = refl; timers = refl }; partner = inr tt; agreed = inl refl; goes = tt })
  cr_wait_leaves w (Dr destination source reason info text) = record { same = alike; partner = inl refl; agreed = inl refl; goes = refl }
  cr_wait_leaves w other = record { same = alike; partner = inl refl; agreed = inl refl; goes = tt }

  parting_leaves : (w : InWaitBeforeClose) (tpdu : Tpdu) → Leaves b.clock b (WaitBeforeClose w) (wait_before_close_tpdu b w tpdu)
  unfolding wait_before_close_tpdu
  parting_leaves w (Cc credit destination source width calling called size preferred extra version classes ack_time text) =
      record { same = record { own = refl; to = refl; is_called = refl; calling = refl; called = refl; proposed = refl; timers = refl }; partner = inr tt; agreed = inl refl; goes = tt }
  parting_leaves w (Dr destination source reason info text) = record { same = alike; partner = inl refl; agreed = inl refl; goes = refl }
  parting_leaves w other = record { same = alike; partner = inl refl; agreed = inl refl; goes = tt }

  accept_leaves : (since : ℕ) (asked : Options) (octets : List ℕ) → Leaves b.clock b (UserWait since) (user_wait_accept b asked octets)
  unfolding user_wait_accept
  accept_leaves since asked octets =
      record { same = record { own = refl; to = refl; is_called = refl; calling = refl; called = refl; proposed = refl; timers = refl }; partner = inl refl; agreed = inr (tt, tt); goes = tt }

  -- ---- in each state

  -- a tick leaves the whole record
  pub ticks_same : (stage : StateData) → (on_tick b stage).base ≡ b
  ticks_same (CrWait w) = (cr_wait_later w).base
  ticks_same (WaitBeforeClose w) = (parting_later w).base
  ticks_same (UserWait since) = (user_wait_later since).base
  ticks_same (AkWait w) = (ak_wait_later w).base
  ticks_same (Opened o) = (opened_later o).base
  ticks_same (Closing c) = (closing_later c).base
  ticks_same (Frozen when) = refl

  tick_goes_on : (stage : StateData) → GoesOn b.clock stage (on_tick b stage).stage
  tick_goes_on (CrWait w) = (cr_wait_later w).goes
  tick_goes_on (WaitBeforeClose w) = (parting_later w).goes
  tick_goes_on (UserWait since) = (user_wait_later since).goes
  tick_goes_on (AkWait w) = (ak_wait_later w).goes
  tick_goes_on (Opened o) = (opened_later o).goes
  tick_goes_on (Closing c) = (closing_later c).goes
  tick_goes_on (Frozen when) = refl

  call_leaves : (stage : StateData) (call : UserCall) → Leaves b.clock b stage (on_call b stage call)
  call_leaves (UserWait since) (Accept asked octets) = accept_leaves since asked octets
  call_leaves (UserWait since) (Refuse octets) = let k = refused_keeps octets in whole_record b (UserWait since) (user_wait_refuse b octets) k.base k.goes
  call_leaves (Opened o) (Window credit) = let k = window_keeps o credit in whole_record b (Opened o) (opened_window b o credit) k.base k.goes
  call_leaves (CrWait w) (Disconnect octets) = whole_record b (CrWait w) _ refl tt
  call_leaves (AkWait w) (Normal unit) = whole_record b (AkWait w) _ refl tt
  call_leaves (AkWait w) (Urgent unit) = whole_record b (AkWait w) _ refl tt
  call_leaves (AkWait w) (Disconnect octets) = whole_record b (AkWait w) _ refl tt
  call_leaves (Opened o) (Normal unit) = whole_record b (Opened o) _ refl tt
  call_leaves (Opened o) (Urgent unit) = whole_record b (Opened o) _ refl tt
  call_leaves (Opened o) (Disconnect octets) = whole_record b (Opened o) _ refl tt
  call_leaves stage call = whole_record b stage (stays b stage) refl (goes_still b.clock stage)

module _ (wrap : ℕ → ℕ → ℕ) (b : EndRecord) where
  opened_keeps : (o : InOpened) (tpdu : Tpdu) → Keeps b (opened_tpdu wrap b o tpdu)
  unfolding opened_tpdu
  opened_keeps o (Dt destination last number text) = dt_keeps b (dt_arrival o.halves.receiving number (record { last = last; octets = text })).got o _
  opened_keeps o (Ed destination last number text) = either b (is_expedited b.agreed) _ _ (record { base = refl; goes = tt }) (record { base = refl; goes = tt })
  opened_keeps o (Dr destination source reason info text) = record { base = refl; goes = refl }
  opened_keeps o other = record { base = refl; goes = tt }

  opening_keeps : (h : Halves) (tpdu : Tpdu) → Keeps b (opening wrap b h tpdu)
  opening_keeps h tpdu =
      let k = opened_keeps (record { took = b.clock; acked = b.clock; halves = record h { sending = (opened (at b.clock h.sending)).sender } }) tpdu in
      record { base = k.base; goes = k.goes }

  ak_wait_keeps : (w : InAkWait) (tpdu : Tpdu) → Keeps b (ak_wait_tpdu wrap b w tpdu)
  unfolding ak_wait_tpdu
  ak_wait_keeps w (Ak destination number credit subsequence confirmation) = opening_keeps w.halves (Ak destination number credit subsequence confirmation)
  ak_wait_keeps w (Dt destination last number text) = opening_keeps w.halves (Dt destination last number text)
  ak_wait_keeps w (Ed destination last number text) = opening_keeps w.halves (Ed destination last number text)
  ak_wait_keeps w (Ea destination number) = opening_keeps w.halves (Ea destination number)
  ak_wait_keeps w (Dr destination source reason info text) = record { base = refl; goes = refl }
  ak_wait_keeps w other = record { base = refl; goes = tt }

  tpdu_leaves : (stage : StateData) (tpdu : Tpdu) → Leaves b.clock b stage (on_tpdu wrap b stage tpdu)
  tpdu_leaves (CrWait w) tpdu = cr_wait_leaves b w tpdu
  tpdu_leaves (WaitBeforeClose w) tpdu = parting_leaves b w tpdu
  tpdu_leaves (UserWait since) tpdu = whole_record b (UserWait since) (stays b (UserWait since)) refl tt
  tpdu_leaves (AkWait w) tpdu = let k = ak_wait_keeps w tpdu in whole_record b (AkWait w) (ak_wait_tpdu wrap b w tpdu) k.base k.goes
  tpdu_leaves (Opened o) tpdu = let k = opened_keeps (hearing b o) tpdu in whole_record b (Opened o) (opened_tpdu wrap b (hearing b o) tpdu) k.base k.goes
  tpdu_leaves (Closing c) tpdu = let k = closing_keeps b c tpdu in whole_record b (Closing c) (closing_tpdu b c tpdu) k.base k.goes
  tpdu_leaves (Frozen when) tpdu = whole_record b (Frozen when) (stays b (Frozen when)) refl refl

-- the tick does not count
at_tick : (now : ℕ) (e : End) (m : Moved) → Leaves now (now_at now e.base) e.stage m → Leaves now e.base e.stage m
at_tick now e m l = record {
  same = record { own = l.same.own; to = l.same.to; is_called = l.same.is_called; calling = l.same.calling; called = l.same.called; proposed = l.same.proposed; timers = l.same.timers };
  partner = l.partner;
  agreed = l.agreed;
  goes = l.goes;
}

-- each row
pub row_leaves : (wrap : ℕ → ℕ → ℕ) (now : ℕ) (e : End) (event : Event) → Leaves now e.base e.stage (stepped wrap now e event)
row_leaves wrap now e (Called call) = at_tick now e (stepped wrap now e (Called call)) (call_leaves (now_at now e.base) e.stage call)
row_leaves wrap now e (Took tpdu sum) =
    if_kept (Leaves now e.base e.stage) (wants_sum e.base e.stage tpdu && not sum) _ _
    (λ _. record { same = alike; partner = inl refl; agreed = inl refl; goes = goes_still now e.stage })
    (λ _. at_tick now e (on_tpdu wrap (now_at now e.base) e.stage tpdu) (tpdu_leaves wrap (now_at now e.base) e.stage tpdu))
row_leaves wrap now e Ticked =
    at_tick now e (stepped wrap now e Ticked)
    (whole_record (now_at now e.base) e.stage (on_tick (now_at now e.base) e.stage) (ticks_same (now_at now e.base) e.stage) (tick_goes_on (now_at now e.base) e.stage))
