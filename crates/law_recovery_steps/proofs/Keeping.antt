-- Each row of an Opened end that is up to date since a tick: what it sends it sends since then, and what it takes it takes now.
use Rattle.std.proofs.Common.{◌≡◌, ◌⊎◌, inl, inr, ◌<◌, ◌≤◌, ℕ, ◌+◌, ◌*◌, ◌==◌, ◌||◌, ◌&&◌, not, nat_le, Bool, true, false, if◌then◌else◌, List, [], ◌∷◌, Option, Some, None, refl, sym, ap, subst, arith, true≢false}
use Rattle.std.proofs.Math.Nat.{mul-le-mul_right}
use Rattle.std.proofs.lemmas.Bool.{and_parts, leb-true}
use Rattle.std.specs.List.{AllByRecursion, list_any}
use Rattle.tpdu.specs.declared.tpdu.Tpdu.{Tpdu}
use Rattle.tpdu.specs.declared.tpdu.Tpdu.TheVariants.{Ak, Cc, Cr, Dc, Dr, Dt, Ea, Ed}
use Rattle.tp4_number.specs.declared.got.Got.{Got}
use Rattle.tp4_number.specs.declared.got.Got.TheVariants.{TooLarge}
use Rattle.tp4_number.specs.Number.{whole}
use Rattle.tp4_number.proofs.Past.{if_kept}
use Rattle.tp4_flow.specs.ReceivingHalf.{Received, dt_arrival, half_granted, taken_dt, taken_ed}
use Rattle.tp4_flow.specs.declared.rules.Life.{Life}
use Rattle.tp4_flow.specs.declared.rules.Life.TheVariants.{Goes, Exhausted}
use Rattle.tp4_sending.specs.SendingHalf.{Sendings, acknowledged, at, is_urgent_spent, is_window_spent, life_of, submitted, ticked, urged, urgent_done}
use Rattle.tp4_sending.specs.Pieces.{again, is_due, is_spent}
use Rattle.tp4_sending.specs.declared.tries.Tries.{Tries}
use Rattle.tp4_conn.specs.declared.call.UserCall.{UserCall}
use Rattle.tp4_conn.specs.declared.call.UserCall.TheVariants.{Disconnect, Normal, Urgent, Window}
use Rattle.tp4_conn.specs.declared.end_record.EndRecord.{EndRecord}
use Rattle.tp4_conn.specs.declared.states.InOpened.{InOpened}
use Rattle.tp4_conn.specs.declared.states.StateData.{StateData}
use Rattle.tp4_conn.specs.declared.states.StateData.TheVariants.{Opened}
use Rattle.tp4_conn.specs.declared.timers.Timers.{Timers}
use Rattle.tp4_conn.specs.End.{End, Moved, stays}
use Rattle.tp4_conn.specs.Matching.{wants_sum}
use Rattle.tp4_conn.specs.Opened.{acking, dt_as, granting, hearing, is_expedited, opened_as, opened_goes, opened_tick, opened_tpdu, protocol_error, receiving, sending}
use Rattle.tp4_conn.specs.Table.{Called, Event, Ticked, Took, at as now_at, on_call, on_tpdu, stepped, untaken}
use Rattle.law_recovery_steps.specs.Laws.{RowsKeepUp}
use Rattle.law_recovery_steps.specs.Since.{EndsIt, IsTriedSince, IsUpToDate, MayLeave, StaysUpToDate}
use Rattle.law_recovery_steps.proofs.SendingAgain.{HaveTried, IsTrying, OutTries, acknowledged_tried, done_tried, each_of, submitted_tried, ticked_tried, tries_of, urged_tried}

goes_not : Goes ≡ Exhausted → ⊥
goes_not e = cc e

either : (a b : Bool) → (a || b) ≡ true → (a ≡ true) ⊎ (b ≡ true)
either true b e = inl refl
either false b e = inr e

module _ (t : Timers) (s : ℕ) (b : EndRecord) (o : InOpened) (timers : b.timers ≡ t) (t1_is : o.halves.sending.rules.t1 ≡ t.t1) (sendings_is : o.halves.sending.rules.sendings ≡ t.sendings)
    (from : s ≤ b.clock) (up : IsUpToDate t s o) where
  abbrev P : Tries → Type 0
  P tries = IsTriedSince s t.t1 tries

  abbrev Row : Type 0 → Moved → Type 0
  Row Leaves m = Leaves ⊎ StaysUpToDate t s m

  all : HaveTried P o.halves.sending
  all = tries_of P o.halves.sending up.tried

  -- at this tick
  trying : IsTrying P (at b.clock o.halves.sending)
  trying = record { tried = record { window = all.window; out = all.out }; new = omega (arith, from) }

  -- the sending half goes on
  sends : {Leaves : Type 0} (took : ℕ) (z : Sendings) → s < took + t.window → HaveTried P z.sender → Row Leaves (sending b (record o { took = took }) z)
  sends {Leaves} took z heard tried = inr (record {
    after = record o { took = took; halves = record o.halves { sending = z.sender } };
    stage = refl;
    since = record { tried = each_of P z.sender tried; heard = heard };
  })

  -- the receiving half does
  receives : {Leaves : Type 0} (took : ℕ) (r : Received) → s < took + t.window → Row Leaves (receiving b (record o { took = took }) r)
  receives {Leaves} took r heard = inr (record {
    after = record o { took = took; halves = record o.halves { receiving = r.half } };
    stage = refl;
    since = record { tried = up.tried; heard = heard };
  })

  -- and the end acknowledges
  acks : {Leaves : Type 0} (took : ℕ) (r : Received) → s < took + t.window → Row Leaves (receiving b (acking b (record o { took = took })) r)
  acks {Leaves} took r heard = inr (record {
    after = record o { took = took; acked = b.clock; halves = record o.halves { receiving = r.half } };
    stage = refl;
    since = record { tried = up.tried; heard = heard };
  })

  module _ (window : 1 ≤ t.window) where
    -- what is taken now was heard in time
    now_heard : s < b.clock + t.window
    now_heard = omega (arith, from, window)

    -- ---- a TPDU

    dt_up : (got : Got) (destination : ℕ) (last : Bool) (w : ℕ) (text : List ℕ) → (dt_arrival o.halves.receiving w (record { last = last; octets = text })).got ≡ got
        → Row (EndsIt b o (Dt destination last w text)) (dt_as got b (hearing b o) (taken_dt whole o.halves.receiving w (record { last = last; octets = text })))
    dt_up TooLarge destination last w text e = inl e
    dt_up other destination last w text e = acks b.clock (taken_dt whole o.halves.receiving w (record { last = last; octets = text })) now_heard

    ed_up : (expedited : Bool) (destination : ℕ) (last : Bool) (w : ℕ) (text : List ℕ) → is_expedited b.agreed ≡ expedited
        → Row (EndsIt b o (Ed destination last w text)) (if expedited then receiving b (hearing b o) (taken_ed whole o.halves.receiving w text) else protocol_error b)
    ed_up true destination last w text e = receives b.clock (taken_ed whole o.halves.receiving w text) now_heard
    ed_up false destination last w text e = inl e

    still : {Leaves : Type 0} → Row Leaves (stays b (Opened (hearing b o)))
    still {Leaves} = inr (record { after = hearing b o; stage = refl; since = record { tried = up.tried; heard = now_heard } })

    tpdu_up : (tpdu : Tpdu) → Row (EndsIt b o tpdu) (opened_tpdu whole b (hearing b o) tpdu)
    unfolding opened_tpdu
    tpdu_up (Cc credit destination source width calling called size preferred extra version classes ack_time text) =
        inr (record { after = acking b (hearing b o); stage = refl; since = record { tried = up.tried; heard = now_heard } })
    tpdu_up (Dt destination last w text) = dt_up (dt_arrival o.halves.receiving w (record { last = last; octets = text })).got destination last w text refl
    tpdu_up (Ed destination last w text) = ed_up (is_expedited b.agreed) destination last w text refl
    tpdu_up (Ak destination w credit subsequence confirmation) =
        sends b.clock (acknowledged (at b.clock o.halves.sending) w credit subsequence) now_heard (acknowledged_tried P (at b.clock o.halves.sending) w credit subsequence trying)
    tpdu_up (Ea destination w) = sends b.clock (urgent_done (at b.clock o.halves.sending) w) now_heard (done_tried P (at b.clock o.halves.sending) w trying)
    tpdu_up (Cr credit source width calling called size preferred extra version classes ack_time text) = still
    tpdu_up (Dc destination source) = still
    tpdu_up other = inl tt

  -- ---- a call of its user

  same : {Leaves : Type 0} → Row Leaves (stays b (Opened o))
  same {Leaves} = inr (record { after = o; stage = refl; since = up })

  grant_up : {Leaves : Type 0} (credit : ℕ) → Row Leaves (granting b o (half_granted o.halves.receiving credit))
  grant_up {Leaves} credit =
      if_kept (Row Leaves) ((half_granted o.halves.receiving credit).receiver.inbox.credit == o.halves.receiving.receiver.inbox.credit) _ _
      (λ _. receives o.took _ up.heard) (λ _. acks o.took _ up.heard)

  call_up : (call : UserCall) → Row (MayLeave t s b.clock b o (Called call)) (on_call b (Opened o) call)
  call_up (Normal unit) = sends o.took (submitted (at b.clock o.halves.sending) unit) up.heard (submitted_tried P (at b.clock o.halves.sending) unit trying)
  call_up (Urgent unit) = sends o.took (urged (at b.clock o.halves.sending) unit) up.heard (urged_tried P (at b.clock o.halves.sending) unit trying)
  call_up (Window credit) = grant_up credit
  call_up (Disconnect octets) = inl tt
  call_up other = same

  -- ---- a tick

  more : (tries : Tries) → is_due o.halves.sending.rules.t1 b.clock tries ≡ true → P tries → P (again b.clock tries)
  more tries due is = let past : tries.last + o.halves.sending.rules.t1 ≤ b.clock = leb-true _ _ due in omega (arith, past, is, t1_is)

  -- what was tried N times since then, the last time T1 ticks ago
  abbrev Late : Type 0
  Late = (s + t.sendings * t.t1 ≤ b.clock) ⊎ (s + t.inactive < b.clock + t.window)

  spent_late : (tries : Tries) → is_spent o.halves.sending.rules.t1 o.halves.sending.rules.sendings b.clock tries ≡ true → P tries → s + t.sendings * t.t1 ≤ b.clock
  spent_late tries e is =
      let parts : (nat_le (tries.last + o.halves.sending.rules.t1) b.clock ≡ true) × (nat_le o.halves.sending.rules.sendings tries.count ≡ true) = and_parts _ _ e in
      let past : tries.last + o.halves.sending.rules.t1 ≤ b.clock = leb-true _ _ parts.0 in
      let few : o.halves.sending.rules.sendings ≤ tries.count = leb-true _ _ parts.1 in
      let all_of : t.sendings * t.t1 ≤ tries.count * t.t1 = mul-le-mul_right t.t1 (subst (λ (n : ℕ). n ≤ tries.count) sendings_is few) in
      omega (arith, past, is, all_of, t1_is)

  window_late : (window : List Tries) → list_any (is_spent o.halves.sending.rules.t1 o.halves.sending.rules.sendings b.clock) window ≡ true → AllByRecursion P window → s + t.sendings * t.t1 ≤ b.clock
  window_late [] e tried = absurd (true≢false (sym e))
  window_late (tries ∷ window) e tried =
      elim (either (is_spent o.halves.sending.rules.t1 o.halves.sending.rules.sendings b.clock tries) (list_any (is_spent o.halves.sending.rules.t1 o.halves.sending.rules.sendings b.clock) window) e) [
        | inl here ↦ spent_late tries here tried.0
        | inr later ↦ window_late window later tried.1
      ]

  urgent_late : (out : Option Tries) → is_urgent_spent (at b.clock o.halves.sending) out ≡ true → OutTries P out → s + t.sendings * t.t1 ≤ b.clock
  urgent_late None e tried = absurd (true≢false (sym e))
  urgent_late (Some tries) e tried = spent_late tries e tried

  exhausted_late : (spent : Bool) → (is_window_spent (at b.clock o.halves.sending) || is_urgent_spent (at b.clock o.halves.sending) o.halves.sending.urgent.out) ≡ spent
      → (if spent then Exhausted else Goes) ≡ Exhausted → s + t.sendings * t.t1 ≤ b.clock
  exhausted_late true e is =
      elim (either (is_window_spent (at b.clock o.halves.sending)) (is_urgent_spent (at b.clock o.halves.sending) o.halves.sending.urgent.out) e) [
        | inl window ↦ window_late o.halves.sending.window window all.window
        | inr ed ↦ urgent_late o.halves.sending.urgent.out ed all.out
      ]
  exhausted_late false e is = absurd (goes_not is)

  goes_up : (z : Sendings) → HaveTried P z.sender → Row Late (opened_goes b o z)
  goes_up z tried =
      if_kept (Row Late) (nat_le (o.acked + b.timers.window) b.clock) _ _
      (λ _. inr (record {
        after = record o { acked = b.clock; halves = record o.halves { sending = z.sender } };
        stage = refl;
        since = record { tried = each_of P z.sender tried; heard = up.heard };
      }))
      (λ _. sends o.took z up.heard tried)

  lives_up : (life_is : Life) → life_of (at b.clock o.halves.sending) ≡ life_is → Row Late (opened_as life_is b o)
  lives_up Exhausted e = inl (inl (exhausted_late (is_window_spent (at b.clock o.halves.sending) || is_urgent_spent (at b.clock o.halves.sending) o.halves.sending.urgent.out) refl e))
  lives_up Goes e = goes_up (ticked (at b.clock o.halves.sending)) (ticked_tried P (at b.clock o.halves.sending) more trying)

  tick_up : Row Late (opened_tick b o)
  unfolding opened_tick
  tick_up =
      if_kept (Row Late) (nat_le (o.took + b.timers.inactive) b.clock) _ _
      (λ late. inl (inr (let past : o.took + b.timers.inactive ≤ b.clock = leb-true _ _ late in omega (arith, past, up.heard, ap (λ (k : Timers). k.inactive) timers))))
      (λ _. lives_up (life_of (at b.clock o.halves.sending)) refl)

-- the clock does not count
ends_at : (now : ℕ) (b : EndRecord) (o : InOpened) (tpdu : Tpdu) → EndsIt (now_at now b) o tpdu → EndsIt b o tpdu
ends_at now b o (Dr destination source reason info text) ends = ends
ends_at now b o other ends = ends

module _ (t : Timers) (s now : ℕ) (e : End) (o : InOpened) (stage : e.stage ≡ Opened o) (timers : e.base.timers ≡ t) (t1_is : o.halves.sending.rules.t1 ≡ t.t1)
    (sendings_is : o.halves.sending.rules.sendings ≡ t.sendings) (from : s ≤ now) (window : 1 ≤ t.window) (up : IsUpToDate t s o) where
  abbrev Does : Event → StateData → Type 0
  Does event at_stage = MayLeave t s now e.base o event ⊎ StaysUpToDate t s (stepped whole now (record { base = e.base; stage = at_stage }) event)

  by_event : (event : Event) → Does event (Opened o)
  by_event (Called call) = call_up t s (now_at now e.base) o timers t1_is sendings_is from up call
  by_event (Took tpdu sum) =
      if_kept (λ (m : Moved). EndsIt e.base o tpdu ⊎ StaysUpToDate t s m) (wants_sum e.base (Opened o) tpdu && not sum) (untaken e.base (Opened o)) (on_tpdu whole (now_at now e.base) (Opened o) tpdu)
      (λ _. inr (record { after = o; stage = refl; since = up }))
      (λ _. elim (tpdu_up t s (now_at now e.base) o timers t1_is sendings_is from up window tpdu) [ inl ends ↦ inl (ends_at now e.base o tpdu ends) | inr kept ↦ inr kept ])
  by_event Ticked = tick_up t s (now_at now e.base) o timers t1_is sendings_is from up

  pub row_keeps_up : (event : Event) → MayLeave t s now e.base o event ⊎ StaysUpToDate t s (stepped whole now e event)
  row_keeps_up event = subst (Does event) (sym stage) (by_event event)

pub rows_keep_up : RowsKeepUp
rows_keep_up t s now e o event stage timers t1_is sendings_is from window up = row_keeps_up t s now e o stage timers t1_is sendings_is from window up event
