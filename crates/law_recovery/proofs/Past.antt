-- Whatever happens in a network, an end that is Closing sent its DR last no later than now: it is Closing as it sends it the first time, and sends it again as it ticks.
use Rattle.std.proofs.Common.{◌≡◌, ℕ, ◌+◌, ◌≤◌, nat_le, nat_lt, ◌==◌, List, Some, arith}
use Rattle.std.specs.Prelude.{◌&&◌, not}
use Rattle.osi_base.specs.Calls.{Call, Keeps}
use Rattle.osi_base.specs.Link.{Link}
use Rattle.script_journal.specs.declared.event.Event.{Event}
use Rattle.tpdu.specs.declared.tpdu.Tpdu.{Tpdu}
use Rattle.tpdu.specs.declared.tpdu.Tpdu.TheVariants as wires
use Rattle.tp4_number.specs.Number.{whole}
use Rattle.tp4_number.specs.declared.got.Got.{Got}
use Rattle.tp4_number.specs.declared.got.Got.TheVariants.{Kept, Old, Outside, TooLarge}
use Rattle.tp4_flow.specs.ReceivingHalf.{Half, Received, dt_arrival, half_granted, taken_dt}
use Rattle.tp4_flow.specs.declared.rules.Life.{Life}
use Rattle.tp4_flow.specs.declared.rules.Life.TheVariants.{Exhausted, Goes}
use Rattle.tp4_sending.specs.SendingHalf.{Sendings, at as sender_at, life_of, ticked}
use Rattle.tp4_conn.specs.Agreeing.{is_within}
use Rattle.tp4_conn.specs.AkWait.{ak_wait_tick, ak_wait_tpdu}
use Rattle.tp4_conn.specs.Closing.{closing_tick, closing_tpdu}
use Rattle.tp4_conn.specs.CrWait.{cr_wait_tick, cr_wait_tpdu}
use Rattle.tp4_conn.specs.End.{End, Moved, span}
use Rattle.tp4_conn.specs.Matching.{wants_sum}
use Rattle.tp4_conn.specs.Opened.{dt_as, granting, hearing, is_expedited, opened_as, opened_goes, opened_tick, opened_tpdu}
use Rattle.tp4_conn.specs.Table.{Called, Event as Happens, Ticked, Took, at, on_call, on_tick, on_tpdu, stepped}
use Rattle.tp4_conn.specs.UserWait.{user_wait_accept, user_wait_refuse, user_wait_tick}
use Rattle.tp4_conn.specs.WaitBeforeClose.{wait_before_close_tick, wait_before_close_tpdu}
use Rattle.tp4_conn.specs.declared.call.UserCall.{UserCall}
use Rattle.tp4_conn.specs.declared.call.UserCall.TheVariants as asks
use Rattle.tp4_conn.specs.declared.end_record.EndRecord.{EndRecord}
use Rattle.tp4_conn.specs.declared.states.InAkWait.{InAkWait}
use Rattle.tp4_conn.specs.declared.states.InClosing.{InClosing}
use Rattle.tp4_conn.specs.declared.states.InCrWait.{InCrWait}
use Rattle.tp4_conn.specs.declared.states.InOpened.{InOpened}
use Rattle.tp4_conn.specs.declared.states.InWaitBeforeClose.{InWaitBeforeClose}
use Rattle.tp4_conn.specs.declared.states.StateData.{StateData}
use Rattle.tp4_conn.specs.declared.states.StateData.TheVariants as stages
use Rattle.tp4_conn.specs.declared.timers.Timers.{Timers}
use Rattle.tp4_entity.specs.Entity.{Entity, end_at}
use Rattle.tp4_world.specs.World.{World, entity_at}
use Rattle.tp4_world.proofs.Addressees.{either}
use Rattle.law_tp4_lawful.specs.Called.{AreHonestCalls}
use Rattle.law_recovery_run.proofs.Lasting.{each_has}

-- an end in Closing sent its DR by then
abbrev pub HasParted : ℕ → StateData → Type 0
HasParted now (stages.Closing c) = c.last ≤ now
HasParted now stage = Prim.Unit {0}

-- so of a row at the tick of its end
abbrev Parted : EndRecord → Moved → Type 0
Parted b m = HasParted b.clock m.stage

-- ---- what comes

data_parted : (b : EndRecord) (o : InOpened) (r : Received) (got : Got) → Parted b (dt_as got b o r)
data_parted b o r TooLarge = omega arith
data_parted b o r Kept = tt
data_parted b o r Old = tt
data_parted b o r Outside = tt

opened_parted : (b : EndRecord) (o : InOpened) (t : Tpdu) → Parted b (opened_tpdu whole b o t)
unfolding opened_tpdu
opened_parted b o (wires.Cc credit destination source width calling called size preferred extra version classes ack_time text) = tt
opened_parted b o (wires.Dr destination source reason info text) = tt
opened_parted b o (wires.Er destination cause rejected) = omega arith
opened_parted b o (wires.Dt destination last number text) =
    data_parted b o (taken_dt whole o.halves.receiving number (record { last = last; octets = text })) (dt_arrival o.halves.receiving number (record { last = last; octets = text })).got
opened_parted b o (wires.Ed destination last number text) = either (Parted b) (is_expedited b.agreed) _ _ tt (omega arith)
opened_parted b o (wires.Ak destination number credit subsequence confirmation) = tt
opened_parted b o (wires.Ea destination number) = tt
opened_parted b o other = tt

accepted_parted : (b : EndRecord) (w : InAkWait) (t : Tpdu) → Parted b (ak_wait_tpdu whole b w t)
unfolding ak_wait_tpdu
accepted_parted b w (wires.Ak destination number credit subsequence confirmation) = opened_parted b _ (wires.Ak destination number credit subsequence confirmation)
accepted_parted b w (wires.Dt destination last number text) = opened_parted b _ (wires.Dt destination last number text)
accepted_parted b w (wires.Ed destination last number text) = opened_parted b _ (wires.Ed destination last number text)
accepted_parted b w (wires.Ea destination number) = opened_parted b _ (wires.Ea destination number)
accepted_parted b w (wires.Dr destination source reason info text) = tt
accepted_parted b w (wires.Er destination cause rejected) = omega arith
accepted_parted b w other = tt

asking_parted : (b : EndRecord) (w : InCrWait) (t : Tpdu) → Parted b (cr_wait_tpdu b w t)
unfolding cr_wait_tpdu
asking_parted b w (wires.Cc credit destination source width calling called size preferred extra version classes ack_time text) =
    either (Parted b) (is_within b.proposed width size preferred extra) _ _ tt (omega arith)
asking_parted b w (wires.Dr destination source reason info text) = tt
asking_parted b w other = tt

waiting_parted : (b : EndRecord) (w : InWaitBeforeClose) (t : Tpdu) → Parted b (wait_before_close_tpdu b w t)
unfolding wait_before_close_tpdu
waiting_parted b w (wires.Cc credit destination source width calling called size preferred extra version classes ack_time text) = omega arith
waiting_parted b w (wires.Dr destination source reason info text) = tt
waiting_parted b w other = tt

closing_parted : (b : EndRecord) (c : InClosing) (t : Tpdu) → c.last ≤ b.clock → Parted b (closing_tpdu b c t)
unfolding closing_tpdu
closing_parted b c (wires.Dc destination source) low = tt
closing_parted b c (wires.Dr destination source reason info text) low = tt
closing_parted b c other low = low

tpdu_parted : (b : EndRecord) (stage : StateData) (t : Tpdu) → HasParted b.clock stage → Parted b (on_tpdu whole b stage t)
tpdu_parted b (stages.CrWait w) t was = asking_parted b w t
tpdu_parted b (stages.WaitBeforeClose w) t was = waiting_parted b w t
tpdu_parted b (stages.UserWait since) t was = tt
tpdu_parted b (stages.AkWait w) t was = accepted_parted b w t
tpdu_parted b (stages.Opened o) t was = opened_parted b (hearing b o) t
tpdu_parted b (stages.Closing c) t was = closing_parted b c t was
tpdu_parted b (stages.Frozen when) t was = tt

-- ---- ticks

asking_ticks : (b : EndRecord) (w : InCrWait) → Parted b (cr_wait_tick b w)
unfolding cr_wait_tick
asking_ticks b w = either (Parted b) (nat_lt b.clock (w.tries.last + b.timers.t1)) _ _ tt (either (Parted b) (nat_lt w.tries.count b.timers.sendings) _ _ tt tt)

waiting_ticks : (b : EndRecord) (w : InWaitBeforeClose) → Parted b (wait_before_close_tick b w)
unfolding wait_before_close_tick
waiting_ticks b w = either (Parted b) (nat_lt b.clock (w.request.tries.last + b.timers.t1)) _ _ tt (either (Parted b) (nat_lt w.request.tries.count b.timers.sendings) _ _ tt tt)

user_ticks : (b : EndRecord) (since : ℕ) → Parted b (user_wait_tick b since)
unfolding user_wait_tick
user_ticks b since = either (Parted b) (nat_lt b.clock (since + b.timers.inactive)) _ _ tt tt

accepted_ticks : (b : EndRecord) (w : InAkWait) → Parted b (ak_wait_tick b w)
unfolding ak_wait_tick
accepted_ticks b w = either (Parted b) (nat_lt b.clock (w.tries.last + b.timers.t1)) _ _ tt (either (Parted b) (nat_lt w.tries.count b.timers.sendings) _ _ tt tt)

goes_parted : (b : EndRecord) (o : InOpened) (s : Sendings) → Parted b (opened_goes b o s)
goes_parted b o s = either (Parted b) (nat_le (o.acked + b.timers.window) b.clock) _ _ tt tt

as_parted : (b : EndRecord) (o : InOpened) (life : Life) → Parted b (opened_as life b o)
as_parted b o Exhausted = omega arith
as_parted b o Goes = goes_parted b o (ticked (sender_at b.clock o.halves.sending))

opened_ticks : (b : EndRecord) (o : InOpened) → Parted b (opened_tick b o)
unfolding opened_tick
opened_ticks b o = either (Parted b) (nat_le (o.took + b.timers.inactive) b.clock) _ _ (omega arith) (as_parted b o (life_of (sender_at b.clock o.halves.sending)))

closing_ticks : (b : EndRecord) (c : InClosing) → c.last ≤ b.clock → Parted b (closing_tick b c)
unfolding closing_tick
closing_ticks b c low = either (Parted b) (nat_le (c.from + span b.timers) b.clock) _ _ tt (either (Parted b) (nat_lt b.clock (c.last + b.timers.t1)) _ _ low (omega arith))

tick_parted : (b : EndRecord) (stage : StateData) → HasParted b.clock stage → Parted b (on_tick b stage)
tick_parted b (stages.CrWait w) was = asking_ticks b w
tick_parted b (stages.WaitBeforeClose w) was = waiting_ticks b w
tick_parted b (stages.UserWait since) was = user_ticks b since
tick_parted b (stages.AkWait w) was = accepted_ticks b w
tick_parted b (stages.Opened o) was = opened_ticks b o
tick_parted b (stages.Closing c) was = closing_ticks b c was
tick_parted b (stages.Frozen when) was = tt

-- ---- calls

grant_parted : (b : EndRecord) (o : InOpened) (new : Half) → Parted b (granting b o new)
grant_parted b o new = either (Parted b) (new.receiver.inbox.credit == o.halves.receiving.receiver.inbox.credit) _ _ tt tt

answer_parted : (b : EndRecord) (since : ℕ) (call : UserCall) → Parted b (on_call b (stages.UserWait since) call)
unfolding user_wait_accept user_wait_refuse
answer_parted b since (asks.Accept options octets) = tt
answer_parted b since other = tt

asked_parted : (b : EndRecord) (w : InAkWait) (call : UserCall) → Parted b (on_call b (stages.AkWait w) call)
asked_parted b w (asks.Disconnect octets) = omega arith
asked_parted b w other = tt

used_parted : (b : EndRecord) (o : InOpened) (call : UserCall) → Parted b (on_call b (stages.Opened o) call)
used_parted b o (asks.Window credit) = grant_parted b o (half_granted o.halves.receiving credit)
used_parted b o (asks.Disconnect octets) = omega arith
used_parted b o other = tt

calling_parted : (b : EndRecord) (w : InCrWait) (call : UserCall) → Parted b (on_call b (stages.CrWait w) call)
calling_parted b w (asks.Accept options octets) = tt
calling_parted b w other = tt

call_parted : (b : EndRecord) (stage : StateData) (call : UserCall) → HasParted b.clock stage → Parted b (on_call b stage call)
call_parted b (stages.CrWait w) call was = calling_parted b w call
call_parted b (stages.WaitBeforeClose w) call was = tt
call_parted b (stages.UserWait since) call was = answer_parted b since call
call_parted b (stages.AkWait w) call was = asked_parted b w call
call_parted b (stages.Opened o) call was = used_parted b o call
call_parted b (stages.Closing c) call was = was
call_parted b (stages.Frozen when) call was = tt

-- ---- any row

row_parted : (now : ℕ) (e : End) (event : Happens) → HasParted now e.stage → HasParted now (stepped whole now e event).stage
row_parted now e (Called call) was = call_parted (at now e.base) e.stage call was
row_parted now e (Took t sum) was = either (λ (m : Moved). HasParted now m.stage) (wants_sum e.base e.stage t && not sum) _ _ was (tpdu_parted (at now e.base) e.stage t was)
row_parted now e Ticked was = tick_parted (at now e.base) e.stage was

later_parted : (now next : ℕ) (stage : StateData) → now ≤ next → HasParted now stage → HasParted next stage
later_parted now next (stages.Closing c) low was = omega (arith, low, was)
later_parted now next other low was = tt

module _ {C : Type 0} (link : C → Link (List ℕ)) (steps : C → Call (List ℕ) → C → Type 0)
    (law : (old : C) (call : Call (List ℕ)) (new : C) → steps old call new → Keeps (link old) call (link new)) where
  pub parted_by : (titles : List (List ℕ)) (timers : Timers) (journal : List Event) (last : World C) → AreHonestCalls link steps whole titles timers journal last → (system own : ℕ) (entity : Entity) (e : End)
      → entity_at last.entities system ≡ Some entity → end_at entity own ≡ Some e → HasParted (link last.carrier).clock e.stage
  parted_by = each_has HasParted row_parted later_parted (λ now w. tt) (λ now since. tt) link steps law
