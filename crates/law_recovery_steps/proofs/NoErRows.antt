-- No row of an end sends an ER.
use Rattle.std.specs.Prelude.{not}
use Rattle.std.proofs.Common.{◌≡◌, ℕ, ◌+◌, ◌==◌, ◌&&◌, nat_le, nat_lt, List, [], ◌∷◌, ◌++◌, Option, Some, None, refl, ap, subst}
use Rattle.std.specs.Option.{unwrap_or}
use Rattle.std.proofs.lemmas.Option.{none-some}
use Rattle.tpdu.specs.declared.tpdu.Tpdu.{Tpdu}
use Rattle.tpdu.specs.declared.tpdu.Tpdu.TheVariants.{Cr, Cc, Dr, Dc, Dt, Ed, Ak, Ea, Er}
use Rattle.tp4_number.specs.declared.got.Got.{Got}
use Rattle.tp4_number.specs.declared.got.Got.TheVariants.{TooLarge}
use Rattle.tp4_number.specs.declared.piece.Piece.{Piece}
use Rattle.tp4_number.proofs.Past.{if_kept}
use Rattle.tp4_flow.specs.ReceivingHalf.{Received, ak, dt_arrival, half_granted, taken_dt, taken_ed}
use Rattle.tp4_flow.specs.declared.rules.FlowRules.{FlowRules}
use Rattle.tp4_flow.specs.declared.rules.Life.{Life}
use Rattle.tp4_flow.specs.declared.rules.Life.TheVariants.{Goes, Exhausted}
use Rattle.tp4_flow.specs.declared.step.Sent.{Sent}
use Rattle.tpdu.specs.declared.service.Options.{Options}
use Rattle.tp4_sending.specs.SendingHalf.{FlowSender, at, life_of, opened, ticked}
use Rattle.tp4_conn.specs.declared.call.UserCall.{UserCall}
use Rattle.tp4_conn.specs.declared.call.UserCall.TheVariants.{Accept, Refuse, Normal, Urgent, Window, Disconnect}
use Rattle.tp4_conn.specs.declared.end_record.EndRecord.{EndRecord}
use Rattle.tp4_conn.specs.declared.halves.Halves.{Halves}
use Rattle.tp4_conn.specs.declared.states.InAkWait.{InAkWait}
use Rattle.tp4_conn.specs.declared.states.InClosing.{InClosing}
use Rattle.tp4_conn.specs.declared.states.InCrWait.{InCrWait}
use Rattle.tp4_conn.specs.declared.states.InOpened.{InOpened}
use Rattle.tp4_conn.specs.declared.states.InWaitBeforeClose.{InWaitBeforeClose}
use Rattle.tp4_conn.specs.declared.states.StateData.{StateData}
use Rattle.tp4_conn.specs.declared.states.StateData.TheVariants.{CrWait, WaitBeforeClose, UserWait, AkWait, Opened, Closing, Frozen}
use Rattle.tp4_conn.specs.declared.timers.Timers.{Timers}
use Rattle.tp4_conn.specs.Agreeing.{confirms_again, halves_of, is_within, options_in}
use Rattle.tp4_conn.specs.AkWait.{ak_wait_tick, ak_wait_tpdu, opening}
use Rattle.tp4_conn.specs.Closing.{closing_tick, closing_tpdu}
use Rattle.tp4_conn.specs.CrWait.{cr_wait_tick, cr_wait_tpdu}
use Rattle.tp4_conn.specs.End.{End, Moved, confirms, span}
use Rattle.tp4_conn.specs.Making.{on_cr}
use Rattle.tp4_conn.specs.Matching.{wants_sum}
use Rattle.tp4_conn.specs.Opened.{dt_as, hearing, is_expedited, opened_as, opened_tick, opened_tpdu}
use Rattle.tp4_conn.specs.Table.{Called, Event, Ticked, Took, at as now_at, on_call, on_tick, on_tpdu, stepped}
use Rattle.tp4_conn.specs.UserWait.{user_wait_accept, user_wait_refuse, user_wait_tick}
use Rattle.tp4_conn.specs.WaitBeforeClose.{wait_before_close_tick, wait_before_close_tpdu}
use Rattle.law_tp4_history.specs.Ends.{Flow}
use Rattle.law_tp4_history.specs.Seen.{seen}
use Rattle.law_tp4_history.proofs.Halves.{AreFlows, IsReady, acknowledged_flows, aks_flow, done_flows, ea_flows, opened_flows, submitted_flows, ticked_flows, urged_flows}
use Rattle.law_recovery_steps.specs.Ers.{HasNoEr, IsNoEr}

-- ---- the halves

flow_is_none : (tpdu : Tpdu) → (seen 0 tpdu).kind ≡ Flow → IsNoEr tpdu
flow_is_none (Er destination cause rejected) e = cc e
flow_is_none other e = tt

pub flows_have_none : (rules : FlowRules) (tpdus : List Sent) → AreFlows rules tpdus → HasNoEr tpdus
flows_have_none rules [] f = tt
flows_have_none rules (sent ∷ tpdus) f = (flow_is_none sent.tpdu (f.0.kind 0), flows_have_none rules tpdus f.1)

pub none_then : (a b : List Sent) → HasNoEr a → HasNoEr b → HasNoEr (a ++ b)
none_then [] b first second = second
none_then (sent ∷ a) b first second = (first.0, none_then a b first.1 second)

ready : (s : FlowSender) → IsReady s.rules s.is_open s
ready s = record { rules_are = refl; is_open = refl }

-- ---- the rows

abbrev None_in : Moved → Type 0
None_in m = HasNoEr m.tpdus

dc_none : (b : EndRecord) (source : ℕ) → HasNoEr (confirms b source)
dc_none b source = if_kept HasNoEr (source == 0) _ _ (λ _. tt) (λ _. (tt, tt))

module _ (wrap : ℕ → ℕ → ℕ) (b : EndRecord) where
  dt_none : (o : InOpened) (got : Got) (r : Received) → HasNoEr r.tpdus → None_in (dt_as got b o r)
  dt_none o TooLarge r all = none_then r.tpdus _ all (tt, tt)
  dt_none o other r all = all

  opened_none : (o : InOpened) (tpdu : Tpdu) → None_in (opened_tpdu wrap b o tpdu)
  unfolding opened_tpdu
  opened_none o (Cc given destination source width calling called size preferred extra version classes ack_time text) = (tt, tt)
  opened_none o (Dr destination source reason info text) = dc_none b source
  opened_none o (Er destination cause rejected) = (tt, tt)
  opened_none o (Dt destination last number text) =
      let piece : Piece = record { last = last; octets = text } in
      let r : Received = taken_dt wrap o.halves.receiving number piece in
      dt_none o (dt_arrival o.halves.receiving number piece).got r (flows_have_none r.half.rules r.tpdus (aks_flow r.half.rules (dt_arrival o.halves.receiving number piece).got r.half refl))
  opened_none o (Ed destination last number text) =
      if_kept None_in (is_expedited b.agreed) _ _
      (λ _. flows_have_none o.halves.receiving.rules (taken_ed wrap o.halves.receiving number text).tpdus (ea_flows o.halves.receiving.rules wrap o.halves.receiving number text refl))
      (λ _. (tt, tt))
  opened_none o (Ak destination number given subsequence confirmation) =
      let s : FlowSender = at b.clock o.halves.sending in flows_have_none s.rules _ (acknowledged_flows s.rules s.is_open s number given subsequence (ready s)).flows
  opened_none o (Ea destination number) = let s : FlowSender = at b.clock o.halves.sending in flows_have_none s.rules _ (done_flows s.rules s.is_open s number (ready s)).flows
  opened_none o other = tt

  ticked_none : (s : FlowSender) → HasNoEr (ticked s).tpdus
  ticked_none s = flows_have_none s.rules (ticked s).tpdus (ticked_flows s.rules s.is_open s (ready s)).flows

  opened_later : (o : InOpened) → None_in (opened_tick b o)
  unfolding opened_tick
  opened_later o = if_kept None_in (nat_le (o.took + b.timers.inactive) b.clock) _ _ (λ _. (tt, tt)) (λ _. by (life_of (at b.clock o.halves.sending)))
    where
      by : (life : Life) → None_in (opened_as life b o)
      by Exhausted = (tt, tt)
      by Goes = if_kept None_in (nat_le (o.acked + b.timers.window) b.clock) _ _
          (λ _. none_then (ticked (at b.clock o.halves.sending)).tpdus _ (ticked_none (at b.clock o.halves.sending)) (tt, tt)) (λ _. ticked_none (at b.clock o.halves.sending))

  opening_none : (k : Halves) (tpdu : Tpdu) → None_in (opening wrap b k tpdu)
  opening_none k tpdu =
      let s : FlowSender = at b.clock k.sending in
      let o : InOpened = record { took = b.clock; acked = b.clock; halves = record k { sending = (opened s).sender } } in
      none_then (opened s).tpdus (opened_tpdu wrap b o tpdu).tpdus (flows_have_none s.rules (opened s).tpdus (opened_flows s.rules s refl).flows) (opened_none o tpdu)

  ak_wait_none : (w : InAkWait) (tpdu : Tpdu) → None_in (ak_wait_tpdu wrap b w tpdu)
  unfolding ak_wait_tpdu
  ak_wait_none w (Ak destination number given subsequence confirmation) = opening_none w.halves (Ak destination number given subsequence confirmation)
  ak_wait_none w (Dt destination last number text) = opening_none w.halves (Dt destination last number text)
  ak_wait_none w (Ed destination last number text) = opening_none w.halves (Ed destination last number text)
  ak_wait_none w (Ea destination number) = opening_none w.halves (Ea destination number)
  ak_wait_none w (Dr destination source reason info text) = dc_none b source
  ak_wait_none w (Er destination cause rejected) = (tt, tt)
  ak_wait_none w other = tt

  again_none : (agreed : Option Options) (octets : List ℕ) → HasNoEr (confirms_again b agreed octets)
  again_none None octets = tt
  again_none (Some o) octets = (tt, tt)

  ak_wait_later : (w : InAkWait) → None_in (ak_wait_tick b w)
  unfolding ak_wait_tick
  ak_wait_later w =
      if_kept None_in (nat_lt b.clock (w.tries.last + b.timers.t1)) _ _ (λ _. tt)
      (λ _. if_kept None_in (nat_lt w.tries.count b.timers.sendings) _ _ (λ _. again_none b.agreed w.octets) (λ _. tt))

  cr_wait_none : (w : InCrWait) (tpdu : Tpdu) → None_in (cr_wait_tpdu b w tpdu)
  unfolding cr_wait_tpdu
  cr_wait_none w (Cc given destination source width calling called size preferred extra version classes ack_time text) =
      if_kept None_in (is_within b.proposed width size preferred extra) _ _
      (λ _.
      let c : EndRecord = record b { partner = source; credit = given; agreed = Some (options_in width size preferred extra) } in
      let h : Halves = halves_of c (options_in width size preferred extra) in
      let s : FlowSender = at b.clock h.sending in
      none_then (opened s).tpdus (ak h.receiving ∷ []) (flows_have_none s.rules (opened s).tpdus (opened_flows s.rules s refl).flows) (tt, tt))
      (λ _. (tt, tt))
  cr_wait_none w (Dr destination source reason info text) = dc_none b source
  cr_wait_none w other = tt

  cr_wait_later : (w : InCrWait) → None_in (cr_wait_tick b w)
  unfolding cr_wait_tick
  cr_wait_later w =
      if_kept None_in (nat_lt b.clock (w.tries.last + b.timers.t1)) _ _ (λ _. tt)
      (λ _. if_kept None_in (nat_lt w.tries.count b.timers.sendings) _ _ (λ _. (tt, tt)) (λ _. tt))

  parting_none : (w : InWaitBeforeClose) (tpdu : Tpdu) → None_in (wait_before_close_tpdu b w tpdu)
  unfolding wait_before_close_tpdu
  parting_none w (Cc given destination source width calling called size preferred extra version classes ack_time text) = (tt, tt)
  parting_none w (Dr destination source reason info text) = dc_none b source
  parting_none w other = tt

  parting_later : (w : InWaitBeforeClose) → None_in (wait_before_close_tick b w)
  unfolding wait_before_close_tick
  parting_later w =
      if_kept None_in (nat_lt b.clock (w.request.tries.last + b.timers.t1)) _ _ (λ _. tt)
      (λ _. if_kept None_in (nat_lt w.request.tries.count b.timers.sendings) _ _ (λ _. (tt, tt)) (λ _. tt))

  user_wait_later : (since : ℕ) → None_in (user_wait_tick b since)
  unfolding user_wait_tick
  user_wait_later since = if_kept None_in (nat_lt b.clock (since + b.timers.inactive)) _ _ (λ _. tt) (λ _. (tt, tt))

  closing_none : (c : InClosing) (tpdu : Tpdu) → None_in (closing_tpdu b c tpdu)
  unfolding closing_tpdu
  closing_none c (Dc destination source) = tt
  closing_none c other = tt

  closing_later : (c : InClosing) → None_in (closing_tick b c)
  unfolding closing_tick
  closing_later c =
      if_kept None_in (nat_le (c.from + span b.timers) b.clock) _ _ (λ _. tt)
      (λ _. if_kept None_in (nat_lt b.clock (c.last + b.timers.t1)) _ _ (λ _. tt) (λ _. (tt, tt)))

  -- ---- calls

  opened_call : (o : InOpened) (call : UserCall) → None_in (on_call b (Opened o) call)
  opened_call o (Normal unit) = let s : FlowSender = at b.clock o.halves.sending in flows_have_none s.rules _ (submitted_flows s.rules s.is_open s unit (ready s)).flows
  opened_call o (Urgent unit) = let s : FlowSender = at b.clock o.halves.sending in flows_have_none s.rules _ (urged_flows s.rules s.is_open s unit (ready s)).flows
  opened_call o (Window granted) =
      if_kept None_in ((half_granted o.halves.receiving granted).receiver.inbox.credit == o.halves.receiving.receiver.inbox.credit) _ _ (λ _. tt) (λ _. (tt, tt))
  opened_call o (Disconnect octets) = (tt, tt)
  opened_call o other = tt

  ak_wait_call : (w : InAkWait) (call : UserCall) → None_in (on_call b (AkWait w) call)
  ak_wait_call w (Normal unit) = let s : FlowSender = at b.clock w.halves.sending in flows_have_none s.rules _ (submitted_flows s.rules s.is_open s unit (ready s)).flows
  ak_wait_call w (Urgent unit) = let s : FlowSender = at b.clock w.halves.sending in flows_have_none s.rules _ (urged_flows s.rules s.is_open s unit (ready s)).flows
  ak_wait_call w (Disconnect octets) = (tt, tt)
  ak_wait_call w other = tt

  user_wait_call : (since : ℕ) (call : UserCall) → None_in (on_call b (UserWait since) call)
  unfolding user_wait_accept user_wait_refuse
  user_wait_call since (Accept options octets) = (tt, tt)
  user_wait_call since (Refuse octets) = (tt, tt)
  user_wait_call since other = tt

  cr_wait_call : (w : InCrWait) (call : UserCall) → None_in (on_call b (CrWait w) call)
  cr_wait_call w (Accept options octets) = tt
  cr_wait_call w other = tt

  -- ---- all rows

  tpdu_none : (stage : StateData) (tpdu : Tpdu) → None_in (on_tpdu wrap b stage tpdu)
  tpdu_none (CrWait w) tpdu = cr_wait_none w tpdu
  tpdu_none (WaitBeforeClose w) tpdu = parting_none w tpdu
  tpdu_none (AkWait w) tpdu = ak_wait_none w tpdu
  tpdu_none (Opened o) tpdu = opened_none (hearing b o) tpdu
  tpdu_none (Closing c) tpdu = closing_none c tpdu
  tpdu_none other tpdu = tt

  tick_none : (stage : StateData) → None_in (on_tick b stage)
  tick_none (CrWait w) = cr_wait_later w
  tick_none (WaitBeforeClose w) = parting_later w
  tick_none (UserWait since) = user_wait_later since
  tick_none (AkWait w) = ak_wait_later w
  tick_none (Opened o) = opened_later o
  tick_none (Closing c) = closing_later c
  tick_none (Frozen when) = tt

  call_none : (stage : StateData) (call : UserCall) → None_in (on_call b stage call)
  call_none (CrWait w) call = cr_wait_call w call
  call_none (UserWait since) call = user_wait_call since call
  call_none (AkWait w) call = ak_wait_call w call
  call_none (Opened o) call = opened_call o call
  call_none other call = tt

pub row_none : (wrap : ℕ → ℕ → ℕ) (now : ℕ) (e : End) (event : Event) → HasNoEr (stepped wrap now e event).tpdus
row_none wrap now e (Called call) = call_none wrap (now_at now e.base) e.stage call
row_none wrap now e (Took tpdu sum) = if_kept None_in (wants_sum e.base e.stage tpdu && not sum) _ _ (λ _. tt) (λ _. tpdu_none wrap (now_at now e.base) e.stage tpdu)
row_none wrap now e Ticked = tick_none wrap (now_at now e.base) e.stage

-- an end that a CR makes sends nothing
pub indicated_none : (made own : ℕ) (from : List ℕ) (rules : Timers) (cr : Tpdu) (m : Moved) → on_cr made own from rules cr ≡ Some m → HasNoEr m.tpdus
indicated_none made own from rules (Cr given source width calling called size preferred extra version classes ack_time text) m e = subst None_in (some_same _ m e) tt
  where
    some_same : (a b : Moved) → Some a ≡ Some b → a ≡ b
    some_same a b e = ap (λ (x : Option Moved). unwrap_or x a) e
indicated_none made own from rules other m e = absurd (none-some _ e)
