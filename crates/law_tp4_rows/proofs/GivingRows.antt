-- Each row of an end whose timers give a credit, and that knows the same of its partner: each CR and CC gives it.
use Rattle.std.proofs.Common.{◌≡◌, ℕ, ◌+◌, ◌==◌, ◌&&◌, ◌||◌, not, nat_le, nat_lt, List, [], ◌∷◌, Option, Some, None, ap, subst}
use Rattle.std.specs.Option.{unwrap_or}
use Rattle.std.proofs.lemmas.Option.{none-some}
use Rattle.tpdu.specs.declared.tpdu.Tpdu.{Tpdu}
use Rattle.tpdu.specs.declared.tpdu.Tpdu.TheVariants.{Cr, Cc, Dr, Dc, Dt, Ed, Ak, Ea, Er}
use Rattle.tp4_number.specs.declared.got.Got.{Got}
use Rattle.tp4_number.specs.declared.got.Got.TheVariants.{TooLarge}
use Rattle.tp4_number.specs.declared.piece.Piece.{Piece}
use Rattle.tp4_number.proofs.Past.{if_kept}
use Rattle.tp4_flow.specs.ReceivingHalf.{Half, Received, ak, aks, dt_arrival, half_granted, is_next, is_before, taken_dt}
use Rattle.tp4_flow.specs.declared.rules.Life.{Life}
use Rattle.tp4_flow.specs.declared.rules.Life.TheVariants.{Goes, Exhausted}
use Rattle.tpdu.specs.declared.service.Options.{Options}
use Rattle.tp4_sending.specs.SendingHalf.{Sendings, at, life_of, opened, ticked}
use Rattle.tp4_conn.specs.declared.call.ConnectCall.{ConnectCall}
use Rattle.tp4_conn.specs.declared.call.UserCall.{UserCall}
use Rattle.tp4_conn.specs.declared.call.UserCall.TheVariants.{Accept, Refuse, Normal, Urgent, Window, Disconnect}
use Rattle.tp4_conn.specs.declared.end_record.EndRecord.{EndRecord}
use Rattle.tp4_conn.specs.declared.halves.Halves.{Halves}
use Rattle.tp4_conn.specs.declared.states.InAkWait.{InAkWait}
use Rattle.tp4_conn.specs.declared.states.InClosing.{InClosing}
use Rattle.tp4_conn.specs.declared.states.InCrWait.{InCrWait}
use Rattle.tp4_conn.specs.declared.states.InOpened.{InOpened}
use Rattle.tp4_conn.specs.declared.states.InWaitBeforeClose.{InWaitBeforeClose}
use Rattle.tp4_conn.specs.declared.states.StateData.{StateData}
use Rattle.tp4_conn.specs.declared.states.StateData.TheVariants.{CrWait, WaitBeforeClose, UserWait, AkWait, Opened, Closing, Frozen}
use Rattle.tp4_conn.specs.declared.timers.Timers.{Timers}
use Rattle.tp4_conn.specs.Agreeing.{confirms_again, halves_of, is_within, options_in}
use Rattle.tp4_conn.specs.AkWait.{ak_wait_tick, ak_wait_tpdu, opening}
use Rattle.tp4_conn.specs.Closing.{closing_tick, closing_tpdu}
use Rattle.tp4_conn.specs.CrWait.{confirmed, cr_wait_tick, cr_wait_tpdu}
use Rattle.tp4_conn.specs.End.{End, Moved, confirms, span}
use Rattle.tp4_conn.specs.Making.{connected, on_cr}
use Rattle.tp4_conn.specs.Matching.{wants_sum}
use Rattle.tp4_conn.specs.Opened.{dt_as, granting, hearing, is_expedited, opened_as, opened_tick, opened_tpdu}
use Rattle.tp4_conn.specs.Table.{Called, Event, Ticked, Took, at as now_at, on_call, on_tick, on_tpdu, stepped}
use Rattle.tp4_conn.specs.UserWait.{user_wait_accept, user_wait_refuse, user_wait_tick}
use Rattle.tp4_conn.specs.WaitBeforeClose.{wait_before_close_tick, wait_before_close_tpdu}
use Rattle.law_tp4_rows.specs.Giving.{AllGive, EventGives, Gives, GivesCredit, GivesRow, KnowsCredit}
use Rattle.law_tp4_rows.proofs.Giving.{all_then, acknowledged_give, done_give, opened_give, submitted_give, ticked_give, urged_give}

module _ (credit : ℕ) where
  abbrev Row : Moved → Type 0
  Row m = GivesRow credit m

  -- nothing is sent, and the state says nothing of a credit, or says it as before
  still : (m : Moved) → m.base.timers.credit ≡ credit → KnowsCredit credit m.base m.stage → AllGive credit m.tpdus → Row m
  still m timers knows tpdus = record { gives = record { timers = timers; knows = knows }; tpdus = tpdus }

  dc_gives : (b : EndRecord) (source : ℕ) → AllGive credit (confirms b source)
  dc_gives b source = if_kept (AllGive credit) (source == 0) _ _ (λ _. tt) (λ _. (tt, tt))

  aks_give : (got : Got) (h : Half) → AllGive credit (aks got h)
  aks_give TooLarge h = tt
  aks_give other h = (tt, tt)

  -- ---- Opened

  module _ (wrap : ℕ → ℕ → ℕ) (b : EndRecord) (timers : b.timers.credit ≡ credit) where
    dt_gives : (o : InOpened) (got : Got) (r : Received) → b.credit ≡ credit → AllGive credit r.tpdus → Row (dt_as got b o r)
    dt_gives o TooLarge r knows all = still _ timers tt (all_then credit r.tpdus _ all (tt, tt))
    dt_gives o other r knows all = still _ timers knows all

    opened_gives : (o : InOpened) (tpdu : Tpdu) → b.credit ≡ credit → Row (opened_tpdu wrap b o tpdu)
    unfolding opened_tpdu
    opened_gives o (Cc given destination source width calling called size preferred extra version classes ack_time text) knows = still _ timers knows (tt, tt)
    opened_gives o (Dr destination source reason info text) knows = still _ timers tt (dc_gives b source)
    opened_gives o (Er destination cause rejected) knows = still _ timers tt (tt, tt)
    opened_gives o (Dt destination last number text) knows =
        let piece : Piece = record { last = last; octets = text } in
        dt_gives o (dt_arrival o.halves.receiving number piece).got (taken_dt wrap o.halves.receiving number piece) knows (aks_give (dt_arrival o.halves.receiving number piece).got _)
    opened_gives o (Ed destination last number text) knows =
        if_kept Row (is_expedited b.agreed) _ _
        (λ _. still _ timers knows (if_kept (AllGive credit) (is_next o.halves.receiving number || is_before o.halves.receiving number) _ _ (λ _. (tt, tt)) (λ _. tt)))
        (λ _. still _ timers tt (tt, tt))
    opened_gives o (Ak destination number given subsequence confirmation) knows = still _ timers knows (acknowledged_give credit (at b.clock o.halves.sending) number given subsequence)
    opened_gives o (Ea destination number) knows = still _ timers knows (done_give credit (at b.clock o.halves.sending) number)
    opened_gives o other knows = still _ timers knows tt

    opened_later : (o : InOpened) → b.credit ≡ credit → Row (opened_tick b o)
    unfolding opened_tick
    opened_later o knows =
        if_kept Row (nat_le (o.took + b.timers.inactive) b.clock) _ _ (λ _. still _ timers tt (tt, tt)) (λ _. by (life_of (at b.clock o.halves.sending)))
      where
        by : (life : Life) → Row (opened_as life b o)
        by Exhausted = still _ timers tt (tt, tt)
        by Goes = if_kept Row (nat_le (o.acked + b.timers.window) b.clock) _ _
            (λ _. still _ timers knows (all_then credit (ticked (at b.clock o.halves.sending)).tpdus _ (ticked_give credit (at b.clock o.halves.sending)) (tt, tt)))
            (λ _. still _ timers knows (ticked_give credit (at b.clock o.halves.sending)))

    -- ---- AkWait

    opening_gives : (k : Halves) (tpdu : Tpdu) → b.credit ≡ credit → Row (opening wrap b k tpdu)
    opening_gives k tpdu knows =
        let s : Sendings = opened (at b.clock k.sending) in
        let o : InOpened = record { took = b.clock; acked = b.clock; halves = record k { sending = s.sender } } in
        let r = opened_gives o tpdu knows in
        record { gives = r.gives; tpdus = all_then credit s.tpdus (opened_tpdu wrap b o tpdu).tpdus (opened_give credit (at b.clock k.sending)) r.tpdus }

    ak_wait_gives : (w : InAkWait) (tpdu : Tpdu) → b.credit ≡ credit → Row (ak_wait_tpdu wrap b w tpdu)
    unfolding ak_wait_tpdu
    ak_wait_gives w (Ak destination number given subsequence confirmation) knows = opening_gives w.halves (Ak destination number given subsequence confirmation) knows
    ak_wait_gives w (Dt destination last number text) knows = opening_gives w.halves (Dt destination last number text) knows
    ak_wait_gives w (Ed destination last number text) knows = opening_gives w.halves (Ed destination last number text) knows
    ak_wait_gives w (Ea destination number) knows = opening_gives w.halves (Ea destination number) knows
    ak_wait_gives w (Dr destination source reason info text) knows = still _ timers tt (dc_gives b source)
    ak_wait_gives w (Er destination cause rejected) knows = still _ timers tt (tt, tt)
    ak_wait_gives w other knows = still _ timers knows tt

    -- the CC again: its credit is that of the timers
    again_gives : (agreed : Option Options) (octets : List ℕ) → AllGive credit (confirms_again b agreed octets)
    again_gives None octets = tt
    again_gives (Some o) octets = (timers, tt)

    ak_wait_later : (w : InAkWait) → b.credit ≡ credit → Row (ak_wait_tick b w)
    unfolding ak_wait_tick
    ak_wait_later w knows =
        if_kept Row (nat_lt b.clock (w.tries.last + b.timers.t1)) _ _ (λ _. still _ timers knows tt)
        (λ _. if_kept Row (nat_lt w.tries.count b.timers.sendings) _ _ (λ _. still _ timers knows (again_gives b.agreed w.octets)) (λ _. still _ timers tt tt))

    -- ---- CrWait, WaitBeforeClose, UserWait, Closing

    -- the CC: the end knows the credit that it gives
    cr_wait_gives : (w : InCrWait) (tpdu : Tpdu) → GivesCredit credit tpdu → Row (cr_wait_tpdu b w tpdu)
    unfolding cr_wait_tpdu
    cr_wait_gives w (Cc given destination source width calling called size preferred extra version classes ack_time text) is =
        if_kept Row (is_within b.proposed width size preferred extra) _ _
        (λ _.
        let c : EndRecord = record b { partner = source; credit = given; agreed = Some (options_in width size preferred extra) } in
        let h : Halves = halves_of c (options_in width size preferred extra) in
        still (confirmed c (options_in width size preferred extra) text) timers is
        (all_then credit (opened (at b.clock h.sending)).tpdus (ak h.receiving ∷ []) (opened_give credit (at b.clock h.sending)) (tt, tt)))
        (λ _. still _ timers tt (tt, tt))
    cr_wait_gives w (Dr destination source reason info text) is = still _ timers tt (dc_gives b source)
    cr_wait_gives w other is = still _ timers tt tt

    cr_wait_later : (w : InCrWait) → Row (cr_wait_tick b w)
    unfolding cr_wait_tick
    cr_wait_later w =
        if_kept Row (nat_lt b.clock (w.tries.last + b.timers.t1)) _ _ (λ _. still _ timers tt tt)
        (λ _. if_kept Row (nat_lt w.tries.count b.timers.sendings) _ _ (λ _. still _ timers tt (timers, tt)) (λ _. still _ timers tt tt))

    parting_gives : (w : InWaitBeforeClose) (tpdu : Tpdu) → Row (wait_before_close_tpdu b w tpdu)
    unfolding wait_before_close_tpdu
    parting_gives w (Cc given destination source width calling called size preferred extra version classes ack_time text) = still _ timers tt (tt, tt)
    parting_gives w (Dr destination source reason info text) = still _ timers tt (dc_gives b source)
    parting_gives w other = still _ timers tt tt

    parting_later : (w : InWaitBeforeClose) → Row (wait_before_close_tick b w)
    unfolding wait_before_close_tick
    parting_later w =
        if_kept Row (nat_lt b.clock (w.request.tries.last + b.timers.t1)) _ _ (λ _. still _ timers tt tt)
        (λ _. if_kept Row (nat_lt w.request.tries.count b.timers.sendings) _ _ (λ _. still _ timers tt (timers, tt)) (λ _. still _ timers tt tt))

    user_wait_later : (since : ℕ) → b.credit ≡ credit → Row (user_wait_tick b since)
    unfolding user_wait_tick
    user_wait_later since knows = if_kept Row (nat_lt b.clock (since + b.timers.inactive)) _ _ (λ _. still _ timers knows tt) (λ _. still _ timers tt (tt, tt))

    closing_gives : (c : InClosing) (tpdu : Tpdu) → Row (closing_tpdu b c tpdu)
    unfolding closing_tpdu
    closing_gives c (Dc destination source) = still _ timers tt tt
    closing_gives c other = still _ timers tt tt

    closing_later : (c : InClosing) → Row (closing_tick b c)
    unfolding closing_tick
    closing_later c =
        if_kept Row (nat_le (c.from + span b.timers) b.clock) _ _ (λ _. still _ timers tt tt)
        (λ _. if_kept Row (nat_lt b.clock (c.last + b.timers.t1)) _ _ (λ _. still _ timers tt tt) (λ _. still _ timers tt (tt, tt)))

    -- ---- calls

    window_gives : (o : InOpened) (new : Half) → b.credit ≡ credit → Row (granting b o new)
    window_gives o new knows = if_kept Row (new.receiver.inbox.credit == o.halves.receiving.receiver.inbox.credit) _ _ (λ _. still _ timers knows tt) (λ _. still _ timers knows (tt, tt))

    opened_call : (o : InOpened) (call : UserCall) → b.credit ≡ credit → Row (on_call b (Opened o) call)
    opened_call o (Normal unit) knows = still _ timers knows (submitted_give credit (at b.clock o.halves.sending) unit)
    opened_call o (Urgent unit) knows = still _ timers knows (urged_give credit (at b.clock o.halves.sending) unit)
    opened_call o (Window granted) knows = window_gives o (half_granted o.halves.receiving granted) knows
    opened_call o (Disconnect octets) knows = still _ timers tt (tt, tt)
    opened_call o other knows = still _ timers knows tt

    ak_wait_call : (w : InAkWait) (call : UserCall) → b.credit ≡ credit → Row (on_call b (AkWait w) call)
    ak_wait_call w (Normal unit) knows = still _ timers knows (submitted_give credit (at b.clock w.halves.sending) unit)
    ak_wait_call w (Urgent unit) knows = still _ timers knows (urged_give credit (at b.clock w.halves.sending) unit)
    ak_wait_call w (Disconnect octets) knows = still _ timers tt (tt, tt)
    ak_wait_call w other knows = still _ timers knows tt

    user_wait_call : (since : ℕ) (call : UserCall) → b.credit ≡ credit → Row (on_call b (UserWait since) call)
    unfolding user_wait_accept user_wait_refuse
    user_wait_call since (Accept options octets) knows = still _ timers knows (timers, tt)
    user_wait_call since (Refuse octets) knows = still _ timers tt (tt, tt)
    user_wait_call since other knows = still _ timers knows tt

    cr_wait_call : (w : InCrWait) (call : UserCall) → Row (on_call b (CrWait w) call)
    cr_wait_call w (Accept options octets) = still _ timers tt tt
    cr_wait_call w other = still _ timers tt tt

    -- ---- all rows

    tpdu_gives : (stage : StateData) (tpdu : Tpdu) → KnowsCredit credit b stage → GivesCredit credit tpdu → Row (on_tpdu wrap b stage tpdu)
    tpdu_gives (CrWait w) tpdu knows is = cr_wait_gives w tpdu is
    tpdu_gives (WaitBeforeClose w) tpdu knows is = parting_gives w tpdu
    tpdu_gives (UserWait since) tpdu knows is = still _ timers knows tt
    tpdu_gives (AkWait w) tpdu knows is = ak_wait_gives w tpdu knows
    tpdu_gives (Opened o) tpdu knows is = opened_gives (hearing b o) tpdu knows
    tpdu_gives (Closing c) tpdu knows is = closing_gives c tpdu
    tpdu_gives (Frozen when) tpdu knows is = still _ timers tt tt

    tick_gives : (stage : StateData) → KnowsCredit credit b stage → Row (on_tick b stage)
    tick_gives (CrWait w) knows = cr_wait_later w
    tick_gives (WaitBeforeClose w) knows = parting_later w
    tick_gives (UserWait since) knows = user_wait_later since knows
    tick_gives (AkWait w) knows = ak_wait_later w knows
    tick_gives (Opened o) knows = opened_later o knows
    tick_gives (Closing c) knows = closing_later c
    tick_gives (Frozen when) knows = still _ timers tt tt

    call_gives : (stage : StateData) (call : UserCall) → KnowsCredit credit b stage → Row (on_call b stage call)
    call_gives (CrWait w) call knows = cr_wait_call w call
    call_gives (UserWait since) call knows = user_wait_call since call knows
    call_gives (AkWait w) call knows = ak_wait_call w call knows
    call_gives (Opened o) call knows = opened_call o call knows
    call_gives other call knows = still _ timers tt tt

  -- the tick does not count
  pub knows_at : (now : ℕ) (b : EndRecord) (stage : StateData) → KnowsCredit credit b stage → KnowsCredit credit (now_at now b) stage
  knows_at now b (UserWait since) knows = knows
  knows_at now b (AkWait w) knows = knows
  knows_at now b (Opened o) knows = knows
  knows_at now b other knows = tt

  pub row_gives : (wrap : ℕ → ℕ → ℕ) (now : ℕ) (e : End) (event : Event) → Gives credit e.base e.stage → EventGives credit event → Row (stepped wrap now e event)
  row_gives wrap now e (Called call) g is = call_gives wrap (now_at now e.base) g.timers e.stage call (knows_at now e.base e.stage g.knows)
  row_gives wrap now e (Took tpdu sum) g is =
      if_kept Row (wants_sum e.base e.stage tpdu && not sum) _ _ (λ _. still _ g.timers g.knows tt) (λ _. tpdu_gives wrap (now_at now e.base) g.timers e.stage tpdu (knows_at now e.base e.stage g.knows) is)
  row_gives wrap now e Ticked g is = tick_gives wrap (now_at now e.base) g.timers e.stage (knows_at now e.base e.stage g.knows)

  -- ---- an end that is made

  pub connect_gives : (made : ℕ) (call : ConnectCall) → call.rules.credit ≡ credit → Row (connected made call)
  connect_gives made call is = still _ is tt (is, tt)

  pub indicated_gives : (made own : ℕ) (from : List ℕ) (rules : Timers) (cr : Tpdu) (m : Moved) → rules.credit ≡ credit → GivesCredit credit cr → on_cr made own from rules cr ≡ Some m → Row m
  indicated_gives made own from rules (Cr given source width calling called size preferred extra version classes ack_time text) m is gives e = subst Row (some_same _ m e) (still _ is gives tt)
    where
      some_same : (a b : Moved) → Some a ≡ Some b → a ≡ b
      some_same a b e = ap (λ (x : Option Moved). unwrap_or x a) e
  indicated_gives made own from rules other m is gives e = absurd (none-some _ e)
