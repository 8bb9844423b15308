-- What a row of an end leaves as it is: its reference, also in its halves; and of that reference is all that it tells of the end. The walk over the rows
-- shows all three at once, as what is told takes the reference from the rules of the halves.
use Rattle.std.proofs.Common.{◌≡◌, ℕ, zero, suc, ◌+◌, ◌-◌, true, ◌||◌, ◌&&◌, ◌==◌, not, is_some, nat_lt, nat_le, List, [], ◌∷◌, ◌++◌, length, drop, Option, Some, None}
use Rattle.std.specs.List.{AllByRecursion}
use Rattle.tpdu.specs.declared.tpdu.Tpdu.{Tpdu}
use Rattle.tpdu.specs.declared.tpdu.Tpdu.TheVariants as wires
use Rattle.tp4_number.specs.Number.{near}
use Rattle.tp4_number.specs.declared.got.Got.{Got}
use Rattle.tp4_number.specs.declared.got.Got.TheVariants.{TooLarge}
use Rattle.tp4_number.specs.declared.piece.Piece.{Piece}
use Rattle.tp4_number.proofs.Past.{if_kept}
use Rattle.tp4_flow.specs.ReceivingHalf.{Half, dt_arrival, half_granted, is_next, taken_dt, taken_ed}
use Rattle.tp4_flow.specs.Told.{gots}
use Rattle.tp4_flow.specs.declared.rules.Life.{Life}
use Rattle.tp4_flow.specs.declared.rules.Life.TheVariants.{Goes, Exhausted}
use Rattle.tpdu.specs.declared.service.Options.{Options}
use Rattle.tp4_flow.specs.declared.step.EndEvent.{EndEvent}
use Rattle.tp4_flow.specs.declared.step.What.{What}
use Rattle.tp4_flow.specs.declared.step.What.TheVariants as whats
use Rattle.tp4_sending.specs.SendingHalf.{FlowSender, Sendings, acknowledged, acknowledged_to, at, block_in, has_next, is_noted, is_outstanding, is_taken, is_urgent, life_of, new_sends, normals, normals_where, one_urgent, opened, resends, resends_urgent, resends_urgent_as, rule_allows, sent_normal, submitted, then_sends, ticked, ticked_as, urged, urgent_done}
use Rattle.tp4_sending.specs.Pieces.{end_of as end_in, is_due}
use Rattle.tp4_sending.specs.declared.tries.Tries.{Tries}
use Rattle.tp4_conn.specs.declared.end_record.EndRecord.{EndRecord}
use Rattle.tp4_conn.specs.declared.call.UserCall.{UserCall}
use Rattle.tp4_conn.specs.declared.call.UserCall.TheVariants as calls
use Rattle.tp4_conn.specs.declared.halves.Halves.{Halves}
use Rattle.tp4_conn.specs.declared.states.InAkWait.{InAkWait}
use Rattle.tp4_conn.specs.declared.states.InOpened.{InOpened}
use Rattle.tp4_conn.specs.declared.states.InWaitBeforeClose.{InWaitBeforeClose}
use Rattle.tp4_conn.specs.declared.states.InClosing.{InClosing}
use Rattle.tp4_conn.specs.declared.states.InCrWait.{InCrWait}
use Rattle.tp4_conn.specs.declared.states.StateData.{StateData}
use Rattle.tp4_conn.specs.declared.states.StateData.TheVariants as stages
use Rattle.tp4_conn.specs.Agreeing.{halves_of, is_within, options_in}
use Rattle.tp4_conn.specs.AkWait.{ak_wait_tick, ak_wait_tpdu, opening, queueing}
use Rattle.tp4_conn.specs.Closing.{closing_tick, closing_tpdu}
use Rattle.tp4_conn.specs.CrWait.{confirmed, cr_wait_tick, cr_wait_tpdu}
use Rattle.tp4_conn.specs.End.{End, Moved, span}
use Rattle.tp4_conn.specs.Matching.{wants_sum}
use Rattle.tp4_conn.specs.Opened.{dt_as, hearing, is_expedited, opened_as, opened_goes, opened_tick, opened_tpdu, opened_window, receiving, sending}
use Rattle.tp4_conn.specs.Table.{Called, Event, Ticked, Took, at as at_tick, on_call, on_tick, on_tpdu, stepped}
use Rattle.tp4_conn.specs.UserWait.{user_wait_accept, user_wait_refuse, user_wait_tick}
use Rattle.tp4_conn.specs.WaitBeforeClose.{wait_before_close_tick, wait_before_close_tpdu}
use Rattle.law_tp4_lawful.specs.Own.{AreHalvesOf, IsEndOf, IsStageOf}

-- ---- what is told

-- what is told of an end is of that reference; a fault of a TPDU is of none, and an indication is not told by an end that stands
abbrev pub IsTold : ℕ → ℕ → What → Type 0
IsTold own reference (whats.Incoming from partner calling called options octets) = ⊥
IsTold own reference (whats.BadTpdu cause place) = Prim.Unit {0}
IsTold own reference (whats.Unknown kind) = Prim.Unit {0}
IsTold own reference whats.Silent = Prim.Unit {0}
IsTold own reference other = reference ≡ own

abbrev pub AreTold : ℕ → List EndEvent → Type 0
AreTold own told = AllByRecursion (λ (event : EndEvent). IsTold own event.reference event.what) told

module _ (own : ℕ) where
  told_appended : (xs ys : List EndEvent) → AreTold own xs → AreTold own ys → AreTold own (xs ++ ys)
  told_appended [] ys first second = second
  told_appended (x ∷ xs) ys first second = (first.0, told_appended xs ys first.1 second)

  -- ---- the halves

  abbrev IsOf : Sendings → Type 0
  IsOf x = (x.sender.rules.own ≡ own) × AreTold own x.events

  one_of : (s : FlowSender) → s.rules.own ≡ own → IsOf (one_urgent s)
  one_of s e =
      if_kept IsOf (is_some s.urgent.out || length s.urgent.units == 0) _ _ (λ _. (e, tt))
      (λ _. if_kept IsOf (rule_allows s s.urgent.blocks s.urgent.next) _ _ (λ _. (e, tt)) (λ _. if_kept IsOf (is_noted s.urgent.noted s.urgent.next) _ _ (λ _. (e, tt)) (λ _. (e, (e, tt)))))

  normals_of : (fuel : ℕ) (s : FlowSender) → s.rules.own ≡ own → IsOf (normals fuel s)
  normals_of zero s e = (e, tt)
  normals_of (suc fuel) s e =
      if_kept IsOf (not (has_next s)) _ _ (λ _. (e, tt))
      (λ _. if_kept IsOf (rule_allows s s.numbers.blocks s.numbers.next) _ _ (λ _. normals_of fuel (sent_normal s) e)
      (λ _. if_kept IsOf (is_noted s.noted s.numbers.next) _ _ (λ _. (e, tt)) (λ _. (e, (e, tt)))))

  then_of : (x : Sendings) (next : FlowSender → Sendings) → IsOf x → ((s : FlowSender) → s.rules.own ≡ own → IsOf (next s)) → IsOf (then_sends x next)
  then_of x next first rest =
      let after : IsOf (next x.sender) = rest x.sender first.0 in
      (after.0, told_appended x.events (next x.sender).events first.1 after.1)

  new_of : (s : FlowSender) → s.rules.own ≡ own → IsOf (new_sends s)
  new_of s e =
      if_kept IsOf s.is_open _ _
      (λ _. then_of (one_urgent s) normals_where (one_of s e)
      (λ m k. if_kept IsOf (is_urgent m) _ _ (λ _. (k, tt)) (λ _. normals_of (end_in m.rules.piece m.queue - m.numbers.next) m k)))
      (λ _. (e, tt))

  acknowledged_of : (s : FlowSender) (w credit subsequence : ℕ) → s.rules.own ≡ own → IsOf (acknowledged s w credit subsequence)
  acknowledged_of s w credit subsequence e =
      if_kept IsOf (is_taken s (near (block_in s) s.numbers.base w) credit subsequence) _ _ (λ _. new_of (acknowledged_to s (near (block_in s) s.numbers.base w) credit subsequence) e) (λ _. (e, tt))

  done_of : (s : FlowSender) (w : ℕ) → s.rules.own ≡ own → IsOf (urgent_done s w)
  done_of s w e = if_kept IsOf (is_outstanding s w) _ _ (λ _. new_of (record s { urgent = record s.urgent { units = drop 1 s.urgent.units; out = None } }) e) (λ _. (e, tt))

  again_of : (s : FlowSender) (out : Option Tries) → s.rules.own ≡ own → IsOf (resends_urgent_as out s)
  again_of s None e = (e, tt)
  again_of s (Some tries) e = if_kept IsOf (is_due s.rules.t1 s.clock tries) _ _ (λ _. (e, tt)) (λ _. (e, tt))

  ticked_of : (life : Life) (s : FlowSender) → s.rules.own ≡ own → IsOf (ticked_as life s)
  ticked_of Exhausted s e = (e, tt)
  ticked_of Goes s e = then_of (then_sends (resends s) resends_urgent) new_sends (then_of (resends s) resends_urgent (e, tt) (λ m k. again_of m m.urgent.out k)) new_of

  gots_told : (k : ℕ) (units : List (List ℕ)) → k ≡ own → AreTold own (gots k units)
  gots_told k [] is = tt
  gots_told k (unit ∷ units) is = (is, gots_told k units is)

  -- ---- the rows

  pub record IsRowOf (m : Moved) : Type 0 where
    pub base : m.base.own ≡ own
    pub stage : IsStageOf own m.stage
    pub told : AreTold own m.events

  module _ (wrap : ℕ → ℕ → ℕ) (b : EndRecord) (is : b.own ≡ own) where
    sending_of : (o : InOpened) (x : Sendings) → AreHalvesOf own o.halves → IsOf x → IsRowOf (sending b o x)
    sending_of o x halves h = record { base = is; stage = (h.0, halves.1); told = h.1 }

    dt_of : (got : Got) (o : InOpened) (w : ℕ) (piece : Piece) → AreHalvesOf own o.halves → IsRowOf (dt_as got b o (taken_dt wrap o.halves.receiving w piece))
    dt_of TooLarge o w piece halves =
        record { base = is; stage = tt; told = told_appended (taken_dt wrap o.halves.receiving w piece).events _ (gots_told _ (dt_arrival o.halves.receiving w piece).units halves.1) (is, tt) }
    dt_of other o w piece halves = record { base = is; stage = halves; told = gots_told _ _ halves.1 }

    ed_of : (o : InOpened) (w : ℕ) (octets : List ℕ) → AreHalvesOf own o.halves → IsRowOf (receiving b o (taken_ed wrap o.halves.receiving w octets))
    ed_of o w octets halves = record {
      base = is;
      stage = (halves.0, if_kept (λ (h : Half). h.rules.own ≡ own) (is_next o.halves.receiving w) _ _ (λ _. halves.1) (λ _. halves.1));
      told = if_kept (AreTold own) (is_next o.halves.receiving w) _ _ (λ _. (halves.1, tt)) (λ _. tt);
    }

    opened_of : (o : InOpened) (tpdu : Tpdu) → AreHalvesOf own o.halves → IsRowOf (opened_tpdu wrap b o tpdu)
    unfolding opened_tpdu
    opened_of o (wires.Dr destination source reason info text) halves = record { base = is; stage = tt; told = (is, tt) }
    opened_of o (wires.Er destination cause rejected) halves = record { base = is; stage = tt; told = (is, tt) }
    opened_of o (wires.Dt destination last number text) halves =
        dt_of (dt_arrival o.halves.receiving number (record { last = last; octets = text })).got o number (record { last = last; octets = text }) halves
    opened_of o (wires.Ed destination last number text) halves =
        if_kept IsRowOf (is_expedited b.agreed) _ _ (λ _. ed_of o number text halves) (λ _. record { base = is; stage = tt; told = (is, tt) })
    opened_of o (wires.Ak destination number credit subsequence confirmation) halves =
        sending_of o (acknowledged (at b.clock o.halves.sending) number credit subsequence) halves (acknowledged_of (at b.clock o.halves.sending) number credit subsequence halves.0)
    opened_of o (wires.Ea destination number) halves =
        sending_of o (urgent_done (at b.clock o.halves.sending) number) halves (done_of (at b.clock o.halves.sending) number halves.0)
    opened_of o other halves = record { base = is; stage = halves; told = tt }

    opens_of : (h : Halves) (tpdu : Tpdu) → AreHalvesOf own h → IsRowOf (opening wrap b h tpdu)
    opens_of h tpdu halves =
        let first : IsOf (opened (at b.clock h.sending)) = new_of (record (at b.clock h.sending) { is_open = true }) halves.0 in
        let o : InOpened = record { took = b.clock; acked = b.clock; halves = record h { sending = (opened (at b.clock h.sending)).sender } } in
        let row : IsRowOf (opened_tpdu wrap b o tpdu) = opened_of o tpdu (first.0, halves.1) in
        record { base = row.base; stage = row.stage; told = told_appended (opened (at b.clock h.sending)).events (opened_tpdu wrap b o tpdu).events first.1 row.told }

    confirmed_of : (c : EndRecord) (o : Options) (octets : List ℕ) → c.own ≡ own → IsRowOf (confirmed c o octets)
    confirmed_of c o octets e =
        let first : IsOf (opened (at c.clock (halves_of c o).sending)) = new_of (record (at c.clock (halves_of c o).sending) { is_open = true }) e in
        record { base = e; stage = (first.0, e); told = (e, first.1) }

    cr_of : (w : InCrWait) (tpdu : Tpdu) → IsRowOf (cr_wait_tpdu b w tpdu)
    unfolding cr_wait_tpdu
    cr_of w (wires.Cc credit destination source width calling called size preferred extra version classes ack_time text) =
        if_kept IsRowOf (is_within b.proposed width size preferred extra) _ _
        (λ _. confirmed_of (record b { partner = source; credit = credit; agreed = Some (options_in width size preferred extra) }) (options_in width size preferred extra) text is)
        (λ _. record { base = is; stage = tt; told = (is, tt) })
    cr_of w (wires.Dr destination source reason info text) = record { base = is; stage = tt; told = (is, tt) }
    cr_of w other = record { base = is; stage = tt; told = tt }

    wait_of : (w : InWaitBeforeClose) (tpdu : Tpdu) → IsRowOf (wait_before_close_tpdu b w tpdu)
    unfolding wait_before_close_tpdu
    wait_of w (wires.Cc credit destination source width calling called size preferred extra version classes ack_time text) = record { base = is; stage = tt; told = tt }
    wait_of w other = record { base = is; stage = tt; told = tt }

    ak_of : (w : InAkWait) (tpdu : Tpdu) → AreHalvesOf own w.halves → IsRowOf (ak_wait_tpdu wrap b w tpdu)
    unfolding ak_wait_tpdu
    ak_of w (wires.Ak destination number credit subsequence confirmation) halves = opens_of w.halves (wires.Ak destination number credit subsequence confirmation) halves
    ak_of w (wires.Dt destination last number text) halves = opens_of w.halves (wires.Dt destination last number text) halves
    ak_of w (wires.Ed destination last number text) halves = opens_of w.halves (wires.Ed destination last number text) halves
    ak_of w (wires.Ea destination number) halves = opens_of w.halves (wires.Ea destination number) halves
    ak_of w (wires.Dr destination source reason info text) halves = record { base = is; stage = tt; told = (is, tt) }
    ak_of w (wires.Er destination cause rejected) halves = record { base = is; stage = tt; told = (is, tt) }
    ak_of w other halves = record { base = is; stage = halves; told = tt }

    closing_of : (c : InClosing) (tpdu : Tpdu) → IsRowOf (closing_tpdu b c tpdu)
    unfolding closing_tpdu
    closing_of c (wires.Dc destination source) = record { base = is; stage = tt; told = tt }
    closing_of c other = record { base = is; stage = tt; told = tt }

    tpdu_of : (stage : StateData) (tpdu : Tpdu) → IsStageOf own stage → IsRowOf (on_tpdu wrap b stage tpdu)
    tpdu_of (stages.CrWait w) tpdu halves = cr_of w tpdu
    tpdu_of (stages.WaitBeforeClose w) tpdu halves = wait_of w tpdu
    tpdu_of (stages.AkWait w) tpdu halves = ak_of w tpdu halves
    tpdu_of (stages.Opened o) tpdu halves = opened_of (hearing b o) tpdu halves
    tpdu_of (stages.Closing c) tpdu halves = closing_of c tpdu
    tpdu_of other tpdu halves = record { base = is; stage = tt; told = tt }

    cr_tick_of : (w : InCrWait) → IsRowOf (cr_wait_tick b w)
    unfolding cr_wait_tick
    cr_tick_of w =
        if_kept IsRowOf (nat_lt b.clock (w.tries.last + b.timers.t1)) _ _ (λ _. record { base = is; stage = tt; told = tt })
        (λ _. if_kept IsRowOf (nat_lt w.tries.count b.timers.sendings) _ _ (λ _. record { base = is; stage = tt; told = tt }) (λ _. record { base = is; stage = tt; told = (is, tt) }))

    wait_tick_of : (w : InWaitBeforeClose) → IsRowOf (wait_before_close_tick b w)
    unfolding wait_before_close_tick
    wait_tick_of w =
        if_kept IsRowOf (nat_lt b.clock (w.request.tries.last + b.timers.t1)) _ _ (λ _. record { base = is; stage = tt; told = tt })
        (λ _. if_kept IsRowOf (nat_lt w.request.tries.count b.timers.sendings) _ _ (λ _. record { base = is; stage = tt; told = tt }) (λ _. record { base = is; stage = tt; told = tt }))

    user_tick_of : (since : ℕ) → IsRowOf (user_wait_tick b since)
    unfolding user_wait_tick
    user_tick_of since =
        if_kept IsRowOf (nat_lt b.clock (since + b.timers.inactive)) _ _ (λ _. record { base = is; stage = tt; told = tt }) (λ _. record { base = is; stage = tt; told = (is, tt) })

    ak_tick_of : (w : InAkWait) → AreHalvesOf own w.halves → IsRowOf (ak_wait_tick b w)
    unfolding ak_wait_tick
    ak_tick_of w halves =
        if_kept IsRowOf (nat_lt b.clock (w.tries.last + b.timers.t1)) _ _ (λ _. record { base = is; stage = halves; told = tt })
        (λ _. if_kept IsRowOf (nat_lt w.tries.count b.timers.sendings) _ _ (λ _. record { base = is; stage = halves; told = tt }) (λ _. record { base = is; stage = tt; told = (is, tt) }))

    goes_of : (o : InOpened) (x : Sendings) → AreHalvesOf own o.halves → IsOf x → IsRowOf (opened_goes b o x)
    goes_of o x halves h =
        if_kept IsRowOf (nat_le (o.acked + b.timers.window) b.clock) _ _ (λ _. record { base = is; stage = (h.0, halves.1); told = told_appended x.events [] h.1 tt }) (λ _. sending_of o x halves h)

    opened_as_of : (life : Life) (o : InOpened) → AreHalvesOf own o.halves → IsRowOf (opened_as life b o)
    opened_as_of Exhausted o halves = record { base = is; stage = tt; told = (is, tt) }
    opened_as_of Goes o halves = goes_of o (ticked (at b.clock o.halves.sending)) halves (ticked_of (life_of (at b.clock o.halves.sending)) (at b.clock o.halves.sending) halves.0)

    opened_tick_of : (o : InOpened) → AreHalvesOf own o.halves → IsRowOf (opened_tick b o)
    unfolding opened_tick
    opened_tick_of o halves =
        if_kept IsRowOf (nat_le (o.took + b.timers.inactive) b.clock) _ _ (λ _. record { base = is; stage = tt; told = (is, tt) }) (λ _. opened_as_of (life_of (at b.clock o.halves.sending)) o halves)

    closing_tick_of : (c : InClosing) → IsRowOf (closing_tick b c)
    unfolding closing_tick
    closing_tick_of c =
        if_kept IsRowOf (nat_le (c.from + span b.timers) b.clock) _ _ (λ _. record { base = is; stage = tt; told = tt })
        (λ _. if_kept IsRowOf (nat_lt b.clock (c.last + b.timers.t1)) _ _ (λ _. record { base = is; stage = tt; told = tt }) (λ _. record { base = is; stage = tt; told = tt }))

    tick_of : (stage : StateData) → IsStageOf own stage → IsRowOf (on_tick b stage)
    tick_of (stages.CrWait w) halves = cr_tick_of w
    tick_of (stages.WaitBeforeClose w) halves = wait_tick_of w
    tick_of (stages.UserWait since) halves = user_tick_of since
    tick_of (stages.AkWait w) halves = ak_tick_of w halves
    tick_of (stages.Opened o) halves = opened_tick_of o halves
    tick_of (stages.Closing c) halves = closing_tick_of c
    tick_of (stages.Frozen when) halves = record { base = is; stage = tt; told = tt }

    accept_of : (asked : Options) (octets : List ℕ) → IsRowOf (user_wait_accept b asked octets)
    unfolding user_wait_accept
    accept_of asked octets = record { base = is; stage = (is, is); told = (is, tt) }

    refuse_of : (octets : List ℕ) → IsRowOf (user_wait_refuse b octets)
    unfolding user_wait_refuse
    refuse_of octets = record { base = is; stage = tt; told = tt }

    window_of : (o : InOpened) (credit : ℕ) → AreHalvesOf own o.halves → IsRowOf (opened_window b o credit)
    window_of o credit halves =
        if_kept IsRowOf ((half_granted o.halves.receiving credit).receiver.inbox.credit == o.halves.receiving.receiver.inbox.credit) _ _ (λ _. record { base = is; stage = halves; told = (is, tt) }) (λ _. record { base = is; stage = halves; told = (is, tt) })

    queueing_of : (w : InAkWait) (x : Sendings) → AreHalvesOf own w.halves → IsOf x → IsRowOf (queueing b w x)
    queueing_of w x halves h = record { base = is; stage = (h.0, halves.1); told = h.1 }

    call_of : (stage : StateData) (call : UserCall) → IsStageOf own stage → IsRowOf (on_call b stage call)
    call_of (stages.CrWait w) (calls.Disconnect octets) halves = record { base = is; stage = tt; told = tt }
    call_of (stages.UserWait since) (calls.Accept asked octets) halves = accept_of asked octets
    call_of (stages.UserWait since) (calls.Refuse octets) halves = refuse_of octets
    call_of (stages.AkWait w) (calls.Normal unit) halves =
        queueing_of w (submitted (at b.clock w.halves.sending) unit) halves
        (new_of (record (at b.clock w.halves.sending) { queue = record w.halves.sending.queue { units = w.halves.sending.queue.units ++ unit ∷ [] } }) halves.0)
    call_of (stages.AkWait w) (calls.Urgent unit) halves =
        queueing_of w (urged (at b.clock w.halves.sending) unit) halves
        (new_of (record (at b.clock w.halves.sending) { urgent = record w.halves.sending.urgent { units = w.halves.sending.urgent.units ++ unit ∷ [] } }) halves.0)
    call_of (stages.AkWait w) (calls.Disconnect octets) halves = record { base = is; stage = tt; told = tt }
    call_of (stages.Opened o) (calls.Normal unit) halves =
        sending_of o (submitted (at b.clock o.halves.sending) unit) halves
        (new_of (record (at b.clock o.halves.sending) { queue = record o.halves.sending.queue { units = o.halves.sending.queue.units ++ unit ∷ [] } }) halves.0)
    call_of (stages.Opened o) (calls.Urgent unit) halves =
        sending_of o (urged (at b.clock o.halves.sending) unit) halves
        (new_of (record (at b.clock o.halves.sending) { urgent = record o.halves.sending.urgent { units = o.halves.sending.urgent.units ++ unit ∷ [] } }) halves.0)
    call_of (stages.Opened o) (calls.Window credit) halves = window_of o credit halves
    call_of (stages.Opened o) (calls.Disconnect octets) halves = record { base = is; stage = tt; told = tt }
    call_of stage call halves = record { base = is; stage = halves; told = tt }

-- each step of an end
pub row_of : (wrap : ℕ → ℕ → ℕ) (now own : ℕ) (e : End) (event : Event) → IsEndOf own e → IsRowOf own (stepped wrap now e event)
row_of wrap now own e (Called call) is = call_of own wrap (at_tick now e.base) is.0 e.stage call is.1
row_of wrap now own e (Took tpdu sum) is =
    if_kept (IsRowOf own) (wants_sum e.base e.stage tpdu && not sum) _ _ (λ _. record { base = is.0; stage = is.1; told = (tt, tt) })
    (λ _. tpdu_of own wrap (at_tick now e.base) is.0 e.stage tpdu is.1)
row_of wrap now own e Ticked is = tick_of own wrap (at_tick now e.base) is.0 e.stage is.1
