-- Each row tells what its sending half notes.
use Rattle.std.proofs.Common.{ℕ, ◌+◌, ◌==◌, ◌&&◌, not, nat_le, Bool, true, false, List, [], ◌∷◌, ◌++◌, Some, sym, subst, append-nil, append_assoc}
use Rattle.std.proofs.lemmas.Bool.{false≢true}
use Rattle.tpdu.specs.declared.tpdu.Tpdu.{Tpdu}
use Rattle.tpdu.specs.declared.tpdu.Tpdu.TheVariants.{Dr, Dt, Ed, Ak, Ea, Er}
use Rattle.tp4_flow.specs.ReceivingHalf.{Half, dt_arrival, half_granted, taken_dt, taken_ed}
use Rattle.tp4_flow.specs.declared.rules.FlowRules.{FlowRules}
use Rattle.tp4_flow.specs.declared.rules.Life.{Life}
use Rattle.tp4_flow.specs.declared.rules.Life.TheVariants.{Goes, Exhausted}
use Rattle.tpdu.specs.declared.service.Options.{Options}
use Rattle.tp4_flow.specs.declared.step.EndEvent.{EndEvent}
use Rattle.tp4_flow.specs.declared.step.Sent.{Sent}
use Rattle.tpdu.specs.declared.service.EndTold.TheVariants.{Confirm}
use Rattle.tp4_number.specs.declared.got.Got.{Got}
use Rattle.tp4_number.specs.declared.got.Got.TheVariants.{TooLarge}
use Rattle.tp4_number.specs.Number.{whole}
use Rattle.tp4_number.proofs.Past.{if_kept}
use Rattle.tp4_sending.specs.SendingHalf.{Sendings, at, fresh, life_of, opened, ticked}
use Rattle.tp4_conn.specs.declared.end_record.EndRecord.{EndRecord}
use Rattle.tp4_conn.specs.declared.call.UserCall.{UserCall}
use Rattle.tp4_conn.specs.declared.call.UserCall.TheVariants.{Normal, Urgent, Window, Disconnect}
use Rattle.tp4_conn.specs.declared.halves.Halves.{Halves}
use Rattle.tp4_conn.specs.declared.states.InAkWait.{InAkWait}
use Rattle.tp4_conn.specs.declared.states.InOpened.{InOpened}
use Rattle.tp4_conn.specs.declared.states.StateData.{StateData}
use Rattle.tp4_conn.specs.declared.states.StateData.TheVariants.{AkWait, Opened}
use Rattle.tp4_conn.specs.AkWait.{opening}
use Rattle.tp4_conn.specs.CrWait.{confirmed}
use Rattle.tp4_conn.specs.End.{End, Moved, led_by, tell}
use Rattle.tp4_conn.specs.Matching.{wants_sum}
use Rattle.tp4_conn.specs.Opened.{dt_as, granting, hearing, is_expedited, opened_as, opened_tick, opened_tpdu}
use Rattle.tp4_conn.specs.Table.{Called, Event, Ticked, Took, at as now_at, on_call, on_tick, on_tpdu, stepped}
use Rattle.law_tp4_rows.proofs.RowsWithout.{HasNone, Opens, accepts_in, ak_wait_later, ak_wait_row, call_without, opens_in, tick_without, tpdu_without}
use Rattle.law_tp4_pair.specs.Pair.{Accepts, Asks_called, Asks_calling, Clock, Comes_back, Comes_forth, Happening, Leads, Pair, comes_back, comes_forth, next, tick_of}
use Rattle.law_tp4_pair.specs.Telling.{AreTold, HasTold, Tells}
use Rattle.law_tp4_pair.proofs.Told.{acknowledged_told, at_told, done_told, more_told, opened_told, submitted_told, ticked_told, urged_told}

abbrev TellsRow : List EndEvent → Moved → Type 0
TellsRow told m = Tells m.stage (told ++ m.events)

more_tells : (stage : StateData) (told events : List EndEvent) → Tells stage told → Tells stage (told ++ events)
more_tells (AkWait w) told events h = more_told w.halves.sending told events h
more_tells (Opened o) told events h = more_told o.halves.sending told events h
more_tells other told events h = tt

-- of a state without halves nothing is asked
none_tells : (told : List EndEvent) (m : Moved) → HasNone m.stage → TellsRow told m
none_tells told m none = by m.stage none
  where
    by : (stage : StateData) → HasNone stage → Tells stage (told ++ m.events)
    by (AkWait w) none = absurd none
    by (Opened o) none = absurd none
    by other none = tt

fresh_told : (rules : FlowRules) (credit : ℕ) (told : List EndEvent) → HasTold (fresh rules credit) told
fresh_told rules credit told = record { normal = λ n e. absurd (false≢true e); urgent = λ n e. absurd (false≢true e) }

-- ---- Opened

dt_tells : (b : EndRecord) (o : InOpened) (got : Got) (r : _) (told : List EndEvent) → HasTold o.halves.sending told → TellsRow told (dt_as got b o r)
dt_tells b o TooLarge r told h = tt
dt_tells b o other r told h = more_told o.halves.sending told r.events h

opened_tells : (b : EndRecord) (o : InOpened) (tpdu : Tpdu) (told : List EndEvent) → HasTold o.halves.sending told → TellsRow told (opened_tpdu whole b o tpdu)
unfolding opened_tpdu
opened_tells b o (Dr destination source reason info text) told h = tt
opened_tells b o (Er destination cause rejected) told h = tt
opened_tells b o (Dt destination last number text) told h =
    dt_tells b o (dt_arrival o.halves.receiving number (record { last = last; octets = text })).got (taken_dt whole o.halves.receiving number (record { last = last; octets = text })) told h
opened_tells b o (Ed destination last number text) told h = if_kept (TellsRow told) (is_expedited b.agreed) _ _ (λ _. more_told o.halves.sending told (taken_ed whole o.halves.receiving number text).events h) (λ _. tt)
opened_tells b o (Ak destination number credit subsequence confirmation) told h =
    acknowledged_told (at b.clock o.halves.sending) number credit subsequence told (at_told b.clock o.halves.sending told h)
opened_tells b o (Ea destination number) told h = done_told (at b.clock o.halves.sending) number told (at_told b.clock o.halves.sending told h)
opened_tells b o other told h = more_told o.halves.sending told [] h

tick_tells : (b : EndRecord) (o : InOpened) (told : List EndEvent) → HasTold o.halves.sending told → TellsRow told (opened_tick b o)
unfolding opened_tick
tick_tells b o told h =
    if_kept (TellsRow told) (nat_le (o.took + b.timers.inactive) b.clock) _ _ (λ _. tt) (λ _. by (life_of (at b.clock o.halves.sending)))
  where
    x : Sendings
    x = ticked (at b.clock o.halves.sending)

    goes : HasTold (ticked (at b.clock o.halves.sending)).sender (told ++ (ticked (at b.clock o.halves.sending)).events)
    goes = ticked_told (at b.clock o.halves.sending) (life_of (at b.clock o.halves.sending)) told (at_told b.clock o.halves.sending told h)

    by : (life : Life) → TellsRow told (opened_as life b o)
    by Exhausted = tt
    by Goes = if_kept (TellsRow told) (nat_le (o.acked + b.timers.window) b.clock) _ _
        (λ _. subst (λ (l : List EndEvent). HasTold (ticked (at b.clock o.halves.sending)).sender (told ++ l)) (sym (append-nil (ticked (at b.clock o.halves.sending)).events)) goes)
        (λ _. goes)

-- ---- AkWait, CrWait

led_tells : (m : Moved) (told events : List EndEvent) (tpdus : List Sent) → TellsRow (told ++ events) m → TellsRow told (led_by events tpdus m)
led_tells m told events tpdus h = subst (Tells m.stage) (append_assoc told events m.events) h

opening_tells : (b : EndRecord) (k : Halves) (tpdu : Tpdu) (told : List EndEvent) → HasTold k.sending told → TellsRow told (opening whole b k tpdu)
opening_tells b k tpdu told h =
    let s : Sendings = opened (at b.clock k.sending) in
    let o : InOpened = record { took = b.clock; acked = b.clock; halves = record k { sending = s.sender } } in
    led_tells (opened_tpdu whole b o tpdu) told s.events s.tpdus
    (opened_tells b o tpdu (told ++ s.events) (opened_told (at b.clock k.sending) told (at_told b.clock k.sending told h)))

confirmed_tells : (b : EndRecord) (o : Options) (octets : List ℕ) (told : List EndEvent) → TellsRow told (confirmed b o octets)
confirmed_tells b o octets told =
    let first : EndEvent = tell b (Confirm o octets) in
    subst (HasTold _) (append_assoc told (first ∷ []) _) (opened_told _ (told ++ first ∷ []) (at_told b.clock _ (told ++ first ∷ []) (fresh_told _ b.credit (told ++ first ∷ []))))

opens_tell : (b : EndRecord) (told : List EndEvent) → Opens b (TellsRow told)
opens_tell b told = λ source given options text. confirmed_tells (record b { partner = source; credit = given; agreed = Some options }) options text told

-- ---- all rows

takes_tells : (b : EndRecord) (stage : StateData) (tpdu : Tpdu) (told : List EndEvent) → Tells stage told → TellsRow told (on_tpdu whole b stage tpdu)
takes_tells b (AkWait w) tpdu told h = ak_wait_row whole b (TellsRow told) (none_tells told) w (more_told w.halves.sending told [] h) tpdu (opening_tells b w.halves tpdu told h)
takes_tells b (Opened o) tpdu told h = opened_tells b (hearing b o) tpdu told h
takes_tells b other tpdu told h = tpdu_without whole b (TellsRow told) (none_tells told) other tt tpdu (opens_in b (TellsRow told) (opens_tell b told) other tpdu)

ticks_tell : (b : EndRecord) (stage : StateData) (told : List EndEvent) → Tells stage told → TellsRow told (on_tick b stage)
ticks_tell b (AkWait w) told h = ak_wait_later whole b (TellsRow told) (none_tells told) w (more_told w.halves.sending told [] h) (more_told w.halves.sending told [] h)
ticks_tell b (Opened o) told h = tick_tells b o told h
ticks_tell b other told h = tick_without whole b (TellsRow told) (none_tells told) other tt

grants_tell : (b : EndRecord) (o : InOpened) (new : Half) (told : List EndEvent) → HasTold o.halves.sending told → TellsRow told (granting b o new)
grants_tell b o new told h = if_kept (TellsRow told) (new.receiver.inbox.credit == o.halves.receiving.receiver.inbox.credit) _ _
    (λ _. more_told o.halves.sending told _ h) (λ _. more_told o.halves.sending told _ h)

opened_call_tells : (b : EndRecord) (o : InOpened) (call : UserCall) (told : List EndEvent) → HasTold o.halves.sending told → TellsRow told (on_call b (Opened o) call)
opened_call_tells b o (Normal unit) told h = submitted_told (at b.clock o.halves.sending) unit told (at_told b.clock o.halves.sending told h)
opened_call_tells b o (Urgent unit) told h = urged_told (at b.clock o.halves.sending) unit told (at_told b.clock o.halves.sending told h)
opened_call_tells b o (Window credit) told h = grants_tell b o (half_granted o.halves.receiving credit) told h
opened_call_tells b o (Disconnect octets) told h = tt
opened_call_tells b o other told h = more_told o.halves.sending told [] h

ak_wait_call_tells : (b : EndRecord) (w : InAkWait) (call : UserCall) (told : List EndEvent) → HasTold w.halves.sending told → TellsRow told (on_call b (AkWait w) call)
ak_wait_call_tells b w (Normal unit) told h = submitted_told (at b.clock w.halves.sending) unit told (at_told b.clock w.halves.sending told h)
ak_wait_call_tells b w (Urgent unit) told h = urged_told (at b.clock w.halves.sending) unit told (at_told b.clock w.halves.sending told h)
ak_wait_call_tells b w (Disconnect octets) told h = tt
ak_wait_call_tells b w other told h = more_told w.halves.sending told [] h

calls_tell : (b : EndRecord) (stage : StateData) (call : UserCall) (told : List EndEvent) → Tells stage told → TellsRow told (on_call b stage call)
calls_tell b (AkWait w) call told h = ak_wait_call_tells b w call told h
calls_tell b (Opened o) call told h = opened_call_tells b o call told h
calls_tell b other call told h =
    call_without whole b (TellsRow told) (none_tells told) other tt call (accepts_in b (TellsRow told) (λ asked octets. fresh_told _ b.credit _) other)

pub row_tells : (now : ℕ) (e : End) (event : Event) (told : List EndEvent) → Tells e.stage told → TellsRow told (stepped whole now e event)
row_tells now e (Called call) told h = calls_tell (now_at now e.base) e.stage call told h
row_tells now e (Took tpdu sum) told h = if_kept (TellsRow told) (wants_sum e.base e.stage tpdu && not sum) _ _ (λ _. more_tells e.stage told _ h) (λ _. takes_tells (now_at now e.base) e.stage tpdu told h)
row_tells now e Ticked told h = ticks_tell (now_at now e.base) e.stage told h

-- ---- the pair

tick_of_tells : (ticks : Bool) (now : ℕ) (e : End) (told : List EndEvent) → Tells e.stage told → TellsRow told (tick_of ticks now e)
tick_of_tells true now e told h = row_tells now e Ticked told h
tick_of_tells false now e told h = more_tells e.stage told [] h

pub told_on : (p : Pair) (happening : Happening) → AreTold p → AreTold (next p happening)
told_on p Comes_forth h = by p.forth
  where
    by : (l : List Sent) → AreTold (comes_forth p l)
    by [] = h
    by (sent ∷ rest) = record { calling = h.calling; called = row_tells p.clock p.called (Took sent.tpdu sent.sum) p.called_told h.called }
told_on p Comes_back h = by p.back
  where
    by : (l : List Sent) → AreTold (comes_back p l)
    by [] = h
    by (sent ∷ rest) = record { calling = row_tells p.clock p.calling (Took sent.tpdu sent.sum) p.calling_told h.calling; called = h.called }
told_on p (Asks_calling call) h = record { calling = row_tells p.clock p.calling (Called call) p.calling_told h.calling; called = h.called }
told_on p (Asks_called call) h = record { calling = h.calling; called = row_tells p.clock p.called (Called call) p.called_told h.called }
told_on p (Clock calling called) h = record {
  calling = tick_of_tells calling (p.clock + 1) p.calling p.calling_told h.calling;
  called = tick_of_tells called (p.clock + 1) p.called p.called_told h.called;
}

pub told_after : (old new : Pair) (happenings : List Happening) → AreTold old → Leads old happenings new → AreTold new
told_after old new [] h l = subst AreTold (sym l) h
told_after old new (happening ∷ happenings) h l = told_after (next old happening) new happenings (told_on old happening h) l.1

-- before the accept
pub told_first : (p : Pair) (asked : Options) → Accepts p asked → AreTold p
told_first p asked a = record {
  calling = subst (λ (stage : StateData). Tells stage p.calling_told) (sym a.calling) tt;
  called = subst (λ (stage : StateData). Tells stage p.called_told) (sym a.called) tt;
}
