-- By cases on the state and the event: where an end is not due by a tick that is not after now, a call or a TPDU leaves it not due by it;
-- and each row leaves an end that sent a CC as one that sent nothing else. With now for that tick the end is due later as it was, and with
-- each tick before now it is due no sooner than now.
use Rattle.std.proofs.Common.{◌≡◌, ℕ, ◌+◌, ◌*◌, ◌<◌, ◌≤◌, Bool, true, false, ◌==◌, nat_lt, nat_le, List, [], Option, Some, None, refl, sym, ◌∙◌, ap, subst, arith, if◌then◌else◌}
use Rattle.std.proofs.Math.Nat.{mul-le-mul_right}
use Rattle.std.proofs.lemmas.Bool.{ltb-false, ltb-true}
use Rattle.tpdu.specs.declared.tpdu.Tpdu.{Tpdu}
use Rattle.tpdu.specs.declared.tpdu.Tpdu.TheVariants.{Cc, Dr, Dc, Dt, Ed, Ak, Ea, Er}
use Rattle.tp4_number.specs.declared.got.Got.{Got}
use Rattle.tp4_number.specs.declared.got.Got.TheVariants.{TooLarge}
use Rattle.tp4_flow.specs.ReceivingHalf.{Half, Received, dt_arrival, half_granted, taken_dt}
use Rattle.tp4_flow.specs.Told.{Told}
use Rattle.tp4_number.specs.Number.{wire}
use Rattle.tp4_number.proofs.Past.{if_kept}
use Rattle.tp4_flow.specs.declared.rules.Life.{Life as Ends}
use Rattle.tp4_flow.specs.declared.rules.Life.TheVariants.{Goes, Exhausted}
use Rattle.tpdu.specs.declared.service.Options.{Options}
use Rattle.tp4_flow.specs.declared.step.EndEvent.{EndEvent}
use Rattle.tp4_flow.specs.declared.step.Sent.{Sent}
use Rattle.tp4_sending.specs.SendingHalf.{FlowSender, Sendings, at, due_of, life_of, new_sends, normals_where, nothing, one_urgent, opened, then_sends}
use Rattle.tp4_sending.specs.Pieces.{again, sooner}
use Rattle.tp4_sending.specs.Settled.{IsDue}
use Rattle.tp4_conn.specs.declared.end_record.EndRecord.{EndRecord}
use Rattle.tp4_conn.specs.declared.call.UserCall.{UserCall}
use Rattle.tp4_conn.specs.declared.call.UserCall.TheVariants.{Accept, Refuse, Normal, Urgent, Window, Disconnect}
use Rattle.tp4_conn.specs.declared.halves.Halves.{Halves}
use Rattle.tp4_conn.specs.declared.states.InAkWait.{InAkWait}
use Rattle.tp4_conn.specs.declared.states.InOpened.{InOpened}
use Rattle.tp4_conn.specs.declared.states.InWaitBeforeClose.{InWaitBeforeClose}
use Rattle.tp4_conn.specs.declared.states.InClosing.{InClosing}
use Rattle.tp4_conn.specs.declared.states.InCrWait.{InCrWait}
use Rattle.tp4_conn.specs.declared.states.StateData.{StateData}
use Rattle.tp4_conn.specs.declared.states.StateData.TheVariants.{CrWait, WaitBeforeClose, UserWait, AkWait, Opened, Closing, Frozen}
use Rattle.tp4_conn.specs.declared.timers.Timers.{Timers}
use Rattle.tp4_conn.specs.Agreeing.{halves_of, is_within, options_in}
use Rattle.tp4_conn.specs.AkWait.{ak_wait_tick, ak_wait_tpdu, opening}
use Rattle.tp4_conn.specs.Closing.{closing_tick, closing_tpdu}
use Rattle.tp4_conn.specs.CrWait.{cr_wait_tick, cr_wait_tpdu}
use Rattle.tp4_conn.specs.Dues.{IsBefore}
use Rattle.tp4_conn.specs.End.{Does, End, IsTimed, Moved, closing, frozen, led_by, span}
use Rattle.tp4_conn.specs.Frozen.{frozen_due}
use Rattle.tp4_conn.specs.Living.{IsInTime}
use Rattle.tp4_conn.specs.Opened.{dt_as, granting, hearing, is_expedited, opened_as, opened_tick, opened_tpdu, sending}
use Rattle.tp4_conn.specs.Table.{due, on_call, on_tick, on_tpdu}
use Rattle.tp4_conn.specs.Table.{at as base_at}
use Rattle.tp4_conn.specs.UserWait.{user_wait_accept, user_wait_refuse, user_wait_tick}
use Rattle.tp4_conn.specs.WaitBeforeClose.{wait_before_close_tick, wait_before_close_tpdu}
use Rattle.tp4_conn.specs.steps.Kept.{IsEnd, IsSound, IsUnanswered, IsWaiting}
use Rattle.tp4_conn.proofs.Calms.{IsCalm, acknowledged_late, calm, done_late, opened_late, opened_rests, submitted_late, urged_late}
use Rattle.tp4_conn.proofs.Dues.{before_is, frozen_later}
use Rattle.tp4_sending.proofs.Laters.{Rests}

-- an end after a row: its timers stay, it is not due by a tick that is not after now, and where it sent a CC it sent nothing else
pub record Lasts (t : Timers) (n : ℕ) (m : Moved) : Type 0 where
  pub timers : m.base.timers ≡ t
  pub waiting : IsWaiting m.base.timers m.stage
  pub late : IsDue (due m.base m.stage) n → ⊥

-- the timers of an end, where inactivity passes, and a tick that is not after now
pub record Passes (t : Timers) (n now : ℕ) : Type 0 where
  pub timed : IsTimed t
  pub bound : n ≤ now

span_some : (t : Timers) → IsTimed t → 0 < span t
span_some t timed =
    let some : 1 * t.t1 ≤ t.sendings * t.t1 = mul-le-mul_right t.t1 (omega (arith, timed.sendings_least)) in
    let least : 1 ≤ t.t1 = timed.t1_least in omega arith

before_late : (due : Option ℕ) (n now : ℕ) → n ≤ now → IsBefore due now → IsDue due n → ⊥
before_late None n now bound h k = k
before_late (Some tick) n now bound h k = absurd (omega (arith, bound, h, k))

frozen_late : (n : ℕ) (b : EndRecord) (when : ℕ) → n ≤ b.clock → IsDue (frozen_due b when) n → ⊥
frozen_late n b when bound = before_late (frozen_due b when) n b.clock bound (frozen_later b when)

frozen_lasts : (n : ℕ) (b : EndRecord) (events : List EndEvent) (tpdus : List Sent) → n ≤ b.clock → Lasts b.timers n (frozen b events tpdus)
frozen_lasts n b events tpdus bound = record { timers = refl; waiting = tt; late = frozen_late n b b.clock bound }

closing_lasts : (n : ℕ) (b : EndRecord) (events : List EndEvent) (reason : ℕ) (octets : List ℕ) (from : ℕ) → Passes b.timers n b.clock → n < from + span b.timers
    → Lasts b.timers n (closing b events reason octets from)
closing_lasts n b events reason octets from p low =
    let least : 1 ≤ b.timers.t1 = p.timed.t1_least in
    record { timers = refl; waiting = tt; late = λ k. absurd (omega (arith, k, low, least, p.bound)) }

closing_now : (n : ℕ) (b : EndRecord) (events : List EndEvent) (reason : ℕ) (octets : List ℕ) → Passes b.timers n b.clock → Lasts b.timers n (closing b events reason octets b.clock)
closing_now n b events reason octets p = closing_lasts n b events reason octets b.clock p (let some = span_some b.timers p.timed in omega (arith, some, p.bound))

led : (t : Timers) (n : ℕ) (events : List EndEvent) (tpdus : List Sent) (m : Moved) → Lasts t n m → Lasts t n (led_by events tpdus m)
led t n events tpdus m h = record { timers = h.timers; waiting = h.waiting; late = h.late }

-- ---- Opened

record Parts (x y : ℕ) (z : Option ℕ) (n : ℕ) : Type 0 where
  took : n < x
  acked : n < y
  half : IsDue z n → ⊥

less : (n x : ℕ) → (x ≤ n → ⊥) → n < x
less n x h = by (nat_lt n x) refl
  where
    by : (test : Bool) → nat_lt n x ≡ test → n < x
    by true e = ltb-true n x e
    by false e = absurd (h (ltb-false n x e))

parts : (x y : ℕ) (z : Option ℕ) (n : ℕ) → (IsDue (sooner (sooner (Some x) (Some y)) z) n → ⊥) → Parts x y z n
parts x y None n h = record { took = less n x (λ k. h (omega (arith, k))); acked = less n y (λ k. h (omega (arith, k))); half = λ k. k }
parts x y (Some z) n h = record { took = less n x (λ k. h (omega (arith, k))); acked = less n y (λ k. h (omega (arith, k))); half = λ k. h (omega (arith, k)) }

joined : (x y : ℕ) (z : Option ℕ) (n : ℕ) → Parts x y z n → IsDue (sooner (sooner (Some x) (Some y)) z) n → ⊥
joined x y None n p k = absurd (omega (arith, p.took, p.acked, k))
joined x y (Some z) n p k = let last : n < z = less n z p.half in absurd (omega (arith, p.took, p.acked, last, k))

-- it goes on in Opened
abbrev Waits : ℕ → EndRecord → InOpened → Type 0
Waits n b o = Parts (o.took + b.timers.inactive) (o.acked + b.timers.window) (due_of o.halves.sending) n

record Runs (n : ℕ) (b : EndRecord) (o : InOpened) : Type 0 where
  passes : Passes b.timers n b.clock
  is_open : o.halves.sending.is_open ≡ true
  t1 : 1 ≤ o.halves.sending.rules.t1
  waits : Waits n b o

open_lasts : (n : ℕ) (b : EndRecord) (o : InOpened) (events : List EndEvent) (tpdus : List Sent) → Waits n b o
    → Lasts b.timers n (record { base = b; stage = Opened o; events = events; tpdus = tpdus })
open_lasts n b o events tpdus w = record { timers = refl; waiting = tt; late = joined _ _ (due_of o.halves.sending) n w }

sending_lasts : (n : ℕ) (b : EndRecord) (o : InOpened) (x : Sendings) → Runs n b o → (IsDue (due_of x.sender) n → ⊥) → Lasts b.timers n (sending b o x)
sending_lasts n b o x r half = open_lasts n b _ _ _ (record { took = r.waits.took; acked = r.waits.acked; half = half })

acking_waits : (n : ℕ) (b : EndRecord) (o : InOpened) → Runs n b o → n < b.clock + b.timers.window
acking_waits n b o r = let least : 1 ≤ b.timers.window = r.passes.timed.window_least in omega (arith, r.passes.bound)

dt_lasts : (got : Got) (n : ℕ) (b : EndRecord) (o : InOpened) (x : Received) → Runs n b o → Lasts b.timers n (dt_as got b o x)
dt_lasts TooLarge n b o x r = led _ _ x.events x.tpdus _ (closing_now n b _ 133 [] r.passes)
dt_lasts got n b o x r = open_lasts n b _ _ _ (record { took = r.waits.took; acked = acking_waits n b o r; half = r.waits.half })

calm_at : (n : ℕ) (b : EndRecord) (o : InOpened) → Runs n b o → IsCalm n (at b.clock o.halves.sending)
calm_at n b o r = calm n (at b.clock o.halves.sending) r.is_open r.t1 r.passes.bound r.waits.half

opened_tpdu_lasts : (wrap : ℕ → ℕ → ℕ) (n : ℕ) (b : EndRecord) (o : InOpened) (tpdu : Tpdu) → Runs n b o → Lasts b.timers n (opened_tpdu wrap b o tpdu)
unfolding opened_tpdu
opened_tpdu_lasts wrap n b o (Cc credit destination source width calling called size preferred extra version classes ack_time text) r =
    open_lasts n b _ _ _ (record { took = r.waits.took; acked = acking_waits n b o r; half = r.waits.half })
opened_tpdu_lasts wrap n b o (Dr destination source reason info text) r = frozen_lasts n b _ _ r.passes.bound
opened_tpdu_lasts wrap n b o (Er destination cause rejected) r = closing_now n b _ 133 [] r.passes
opened_tpdu_lasts wrap n b o (Dt destination last number text) r = dt_lasts _ n b o _ r
opened_tpdu_lasts wrap n b o (Ed destination last number text) r =
    if_kept (Lasts b.timers n) (is_expedited b.agreed) _ _
    (λ _. open_lasts n b _ _ _ (record { took = r.waits.took; acked = r.waits.acked; half = r.waits.half }))
    (λ _. closing_now n b _ 133 [] r.passes)
opened_tpdu_lasts wrap n b o (Ak destination number credit subsequence confirmation) r =
    sending_lasts n b o _ r (acknowledged_late n (at b.clock o.halves.sending) number credit subsequence (calm_at n b o r) r.waits.half)
opened_tpdu_lasts wrap n b o (Ea destination number) r =
    sending_lasts n b o _ r (done_late n (at b.clock o.halves.sending) number (calm_at n b o r) r.waits.half)
opened_tpdu_lasts wrap n b o other r = open_lasts n b o _ _ r.waits

-- ---- a matching TPDU

confirmed_lasts : (n : ℕ) (b : EndRecord) (o : Options) (events : List EndEvent) (tpdus : List Sent) → Passes b.timers n b.clock
    → Lasts b.timers n (record {
      base = b;
      stage = Opened (record { took = b.clock; acked = b.clock; halves = record (halves_of b o) { sending = (opened (at b.clock (halves_of b o).sending)).sender } });
      events = events;
      tpdus = tpdus;
    })
confirmed_lasts n b o events tpdus p =
    let low : 1 ≤ b.timers.window = p.timed.window_least in
    let some : 1 ≤ b.timers.inactive = p.timed.inactive_least in
    open_lasts n b _ _ _ (record { took = omega (arith, some, p.bound); acked = omega (arith, low, p.bound); half = opened_late n (at b.clock (halves_of b o).sending) p.timed.t1_least p.bound refl refl })

cr_wait_lasts : (n : ℕ) (b : EndRecord) (w : InCrWait) (tpdu : Tpdu) → Passes b.timers n b.clock → (w.tries.last + b.timers.t1 ≤ n → ⊥) → Lasts b.timers n (cr_wait_tpdu b w tpdu)
unfolding cr_wait_tpdu
cr_wait_lasts n b w (Cc credit destination source width calling called size preferred extra version classes ack_time text) p low =
    if_kept (Lasts b.timers n) (is_within b.proposed width size preferred extra) _ _
    (λ _. let now = record b { partner = source; credit = credit; agreed = Some (options_in width size preferred extra) } in confirmed_lasts n now (options_in width size preferred extra) _ _ p)
    (λ _. closing_now n (record b { partner = source }) _ 133 [] p)
cr_wait_lasts n b w (Dr destination source reason info text) p low = frozen_lasts n b _ _ p.bound
cr_wait_lasts n b w other p low = record { timers = refl; waiting = tt; late = low }

wait_lasts : (n : ℕ) (b : EndRecord) (w : InWaitBeforeClose) (tpdu : Tpdu) → Passes b.timers n b.clock → (w.request.tries.last + b.timers.t1 ≤ n → ⊥) → Lasts b.timers n (wait_before_close_tpdu b w tpdu)
unfolding wait_before_close_tpdu
wait_lasts n b w (Cc credit destination source width calling called size preferred extra version classes ack_time text) p low =
    closing_now n (record b { partner = source }) [] 128 w.octets p
wait_lasts n b w (Dr destination source reason info text) p low = frozen_lasts n b _ _ p.bound
wait_lasts n b w other p low = record { timers = refl; waiting = tt; late = low }

-- its time counts from the first CC, and is not over
first_late : (n : ℕ) (b : EndRecord) (w : InAkWait) → IsUnanswered b.timers w → (w.tries.last + b.timers.t1 ≤ n → ⊥) → n < w.first + span b.timers
first_late n b w u low =
    let all : w.tries.count * b.timers.t1 ≤ b.timers.sendings * b.timers.t1 = mul-le-mul_right b.timers.t1 u.few in
    let soon : n < w.tries.last + b.timers.t1 = less n (w.tries.last + b.timers.t1) low in
    omega (arith, u.runs, soon, all)

opening_lasts : (wrap : ℕ → ℕ → ℕ) (n : ℕ) (b : EndRecord) (h : Halves) (tpdu : Tpdu) → Passes b.timers n b.clock → 1 ≤ h.sending.rules.t1 → h.sending.window ≡ [] → h.sending.urgent.out ≡ None
    → Lasts b.timers n (opening wrap b h tpdu)
opening_lasts wrap n b h tpdu p t1 window out =
    let x = opened (at b.clock h.sending) in
    let rests : Rests n b.clock x.sender = opened_rests n (at b.clock h.sending) t1 p.bound window out in
    let low : 1 ≤ b.timers.window = p.timed.window_least in
    let some : 1 ≤ b.timers.inactive = p.timed.inactive_least in
    led _ _ x.events x.tpdus _
    (opened_tpdu_lasts wrap n b (record { took = b.clock; acked = b.clock; halves = record h { sending = x.sender } }) tpdu (record {
      passes = p;
      is_open = rests.waits.late.early.is_open;
      t1 = rests.waits.late.early.some;
      waits = record { took = omega (arith, some, p.bound); acked = omega (arith, low, p.bound); half = opened_late n (at b.clock h.sending) t1 p.bound window out };
    }))

ak_wait_lasts : (wrap : ℕ → ℕ → ℕ) (n : ℕ) (b : EndRecord) (w : InAkWait) (tpdu : Tpdu) → Passes b.timers n b.clock → 1 ≤ w.halves.sending.rules.t1 → IsUnanswered b.timers w
    → (w.tries.last + b.timers.t1 ≤ n → ⊥) → Lasts b.timers n (ak_wait_tpdu wrap b w tpdu)
unfolding ak_wait_tpdu
ak_wait_lasts wrap n b w (Ak destination number credit subsequence confirmation) p h u low =
    opening_lasts wrap n b w.halves (Ak destination number credit subsequence confirmation) p h u.window u.urgent
ak_wait_lasts wrap n b w (Dt destination last number text) p h u low = opening_lasts wrap n b w.halves (Dt destination last number text) p h u.window u.urgent
ak_wait_lasts wrap n b w (Ed destination last number text) p h u low = opening_lasts wrap n b w.halves (Ed destination last number text) p h u.window u.urgent
ak_wait_lasts wrap n b w (Ea destination number) p h u low = opening_lasts wrap n b w.halves (Ea destination number) p h u.window u.urgent
ak_wait_lasts wrap n b w (Dr destination source reason info text) p h u low = frozen_lasts n b _ _ p.bound
ak_wait_lasts wrap n b w (Er destination cause rejected) p h u low = closing_lasts n b _ 133 [] w.first p (first_late n b w u low)
ak_wait_lasts wrap n b w other p h u low = record { timers = refl; waiting = u; late = low }

closing_tpdu_lasts : (n : ℕ) (b : EndRecord) (c : InClosing) (tpdu : Tpdu) → n ≤ b.clock → (IsDue (due b (Closing c)) n → ⊥) → Lasts b.timers n (closing_tpdu b c tpdu)
unfolding closing_tpdu
closing_tpdu_lasts n b c (Dc destination source) bound low = frozen_lasts n b _ _ bound
closing_tpdu_lasts n b c (Dr destination source cause info text) bound low = frozen_lasts n b _ _ bound
closing_tpdu_lasts n b c other bound low = record { timers = refl; waiting = tt; late = low }

-- T1 passes, and the sending half of an end that is Opened is open
abbrev pub MaySend : StateData → Type 0
MaySend (AkWait w) = 1 ≤ w.halves.sending.rules.t1
MaySend (Opened o) = (o.halves.sending.is_open ≡ true) × (1 ≤ o.halves.sending.rules.t1)
MaySend stage = Unit {0}

may_send : (b : EndRecord) (stage : StateData) → IsSound b stage → MaySend stage
may_send b (AkWait w) s = s.2.t1
may_send b (Opened o) s = (s.3, s.2.t1)
may_send b stage s = tt

running : (n : ℕ) (b : EndRecord) (o : InOpened) → Passes b.timers n b.clock → MaySend (Opened o) → (IsDue (due b (Opened o)) n → ⊥) → Runs n b o
running n b o p sends low = record { passes = p; is_open = sends.0; t1 = sends.1; waits = parts _ _ (due_of o.halves.sending) n low }

heard : (n : ℕ) (b : EndRecord) (o : InOpened) → Runs n b o → Runs n b (hearing b o)
heard n b o r = record {
  passes = r.passes;
  is_open = r.is_open;
  t1 = r.t1;
  waits = record { took = omega (arith, r.passes.timed.inactive_least, r.passes.bound); acked = r.waits.acked; half = r.waits.half };
}

pub tpdu_lasts : (wrap : ℕ → ℕ → ℕ) (n : ℕ) (b : EndRecord) (stage : StateData) (tpdu : Tpdu) → Passes b.timers n b.clock → MaySend stage → IsWaiting b.timers stage → (IsDue (due b stage) n → ⊥)
    → Lasts b.timers n (on_tpdu wrap b stage tpdu)
tpdu_lasts wrap n b (CrWait w) tpdu p sends u low = cr_wait_lasts n b w tpdu p low
tpdu_lasts wrap n b (WaitBeforeClose w) tpdu p sends u low = wait_lasts n b w tpdu p low
tpdu_lasts wrap n b (UserWait since) tpdu p sends u low = record { timers = refl; waiting = tt; late = low }
tpdu_lasts wrap n b (AkWait w) tpdu p sends u low = ak_wait_lasts wrap n b w tpdu p sends u low
tpdu_lasts wrap n b (Opened o) tpdu p sends u low = opened_tpdu_lasts wrap n b (hearing b o) tpdu (heard n b o (running n b o p sends low))
tpdu_lasts wrap n b (Closing c) tpdu p sends u low = closing_tpdu_lasts n b c tpdu p.bound low
tpdu_lasts wrap n b (Frozen when) tpdu p sends u low = record { timers = refl; waiting = tt; late = low }

-- ---- a call

accepted_lasts : (n : ℕ) (b : EndRecord) (asked : Options) (octets : List ℕ) → Passes b.timers n b.clock → Lasts b.timers n (user_wait_accept b asked octets)
unfolding user_wait_accept
accepted_lasts n b asked octets p =
    let some : 1 ≤ b.timers.t1 = p.timed.t1_least in
    let two : 2 ≤ b.timers.sendings = p.timed.sendings_least in
    record { timers = refl; waiting = record { shut = refl; window = refl; urgent = refl; runs = omega arith; few = omega arith }; late = λ k. absurd (omega (arith, k, some, p.bound)) }

accept_waits : (b : EndRecord) (asked : Options) (octets : List ℕ) → IsTimed b.timers → IsWaiting b.timers (user_wait_accept b asked octets).stage
unfolding user_wait_accept
accept_waits b asked octets timed =
    let two : 2 ≤ b.timers.sendings = timed.sendings_least in
    record { shut = refl; window = refl; urgent = refl; runs = omega arith; few = omega arith }

refuse_waits : (b : EndRecord) (octets : List ℕ) → IsWaiting b.timers (user_wait_refuse b octets).stage
unfolding user_wait_refuse
refuse_waits b octets = tt

refused_lasts : (n : ℕ) (b : EndRecord) (octets : List ℕ) → n ≤ b.clock → Lasts b.timers n (user_wait_refuse b octets)
unfolding user_wait_refuse
refused_lasts n b octets bound = frozen_lasts n b _ _ bound

granting_lasts : (n : ℕ) (b : EndRecord) (o : InOpened) (new : Half) → Runs n b o → Lasts b.timers n (granting b o new)
granting_lasts n b o new r =
    if_kept (Lasts b.timers n) (new.receiver.inbox.credit == o.halves.receiving.receiver.inbox.credit) _ _
    (λ _. open_lasts n b _ _ _ (record { took = r.waits.took; acked = r.waits.acked; half = r.waits.half }))
    (λ _. open_lasts n b _ _ _ (record { took = r.waits.took; acked = acking_waits n b o r; half = r.waits.half }))

-- a half that is not open sends nothing
shut_waits : (t : Timers) (w : InAkWait) (s : FlowSender) → s.is_open ≡ false → s.window ≡ [] → s.urgent.out ≡ None → IsUnanswered t w
    → IsUnanswered t (record w { halves = record w.halves { sending = (new_sends s).sender } })
shut_waits t w s shut window out u =
    let same : (new_sends s).sender ≡ s = ap (λ (b : Bool). (if b then then_sends (one_urgent s) normals_where else nothing s).sender) shut in
    record {
      shut = ap (λ (x : FlowSender). x.is_open) same ∙ shut;
      window = ap (λ (x : FlowSender). x.window) same ∙ window;
      urgent = ap (λ (x : FlowSender). x.urgent.out) same ∙ out;
      runs = u.runs;
      few = u.few;
    }

pub call_lasts : (n : ℕ) (b : EndRecord) (stage : StateData) (call : UserCall) → Passes b.timers n b.clock → MaySend stage → IsWaiting b.timers stage → (IsDue (due b stage) n → ⊥)
    → Lasts b.timers n (on_call b stage call)
call_lasts n b (CrWait w) (Disconnect octets) p sends u low = record { timers = refl; waiting = tt; late = low }
call_lasts n b (UserWait since) (Accept asked octets) p sends u low = accepted_lasts n b asked octets p
call_lasts n b (UserWait since) (Refuse octets) p sends u low = refused_lasts n b octets p.bound
call_lasts n b (AkWait w) (Normal unit) p sends u low =
    record { timers = refl; waiting = shut_waits b.timers w _ u.shut u.window u.urgent u; late = low }
call_lasts n b (AkWait w) (Urgent unit) p sends u low =
    record { timers = refl; waiting = shut_waits b.timers w _ u.shut u.window u.urgent u; late = low }
call_lasts n b (AkWait w) (Disconnect octets) p sends u low = closing_lasts n b [] 128 octets w.first p (first_late n b w u low)
call_lasts n b (AkWait w) other p sends u low = record { timers = refl; waiting = u; late = low }
call_lasts n b (Opened o) (Normal unit) p sends u low =
    let r = running n b o p sends low in sending_lasts n b o _ r (submitted_late n (at b.clock o.halves.sending) unit (calm_at n b o r))
call_lasts n b (Opened o) (Urgent unit) p sends u low =
    let r = running n b o p sends low in sending_lasts n b o _ r (urged_late n (at b.clock o.halves.sending) unit (calm_at n b o r))
call_lasts n b (Opened o) (Window credit) p sends u low = granting_lasts n b o _ (running n b o p sends low)
call_lasts n b (Opened o) (Disconnect octets) p sends u low = closing_now n b [] 128 octets p
call_lasts n b stage call p sends u low = record { timers = refl; waiting = tt; late = low }

-- ---- a tick

pub record Keeps (t : Timers) (m : Moved) : Type 0 where
  pub timers : m.base.timers ≡ t
  pub waiting : IsWaiting m.base.timers m.stage

once_more : (b : EndRecord) (w : InAkWait) → IsUnanswered b.timers w → b.clock ≤ w.tries.last + b.timers.t1 → w.tries.count < b.timers.sendings
    → IsUnanswered b.timers (record w { tries = again b.clock w.tries })
once_more b w u soon few = record {
  shut = u.shut;
  window = u.window;
  urgent = u.urgent;
  runs = omega (arith, u.runs, soon);
  few = omega (arith, few);
}

goes_keeps : (life : Ends) (b : EndRecord) (o : InOpened) → Keeps b.timers (opened_as life b o)
goes_keeps Exhausted b o = record { timers = refl; waiting = tt }
goes_keeps Goes b o = if_kept (Keeps b.timers) (nat_le (o.acked + b.timers.window) b.clock) _ _ (λ _. record { timers = refl; waiting = tt }) (λ _. record { timers = refl; waiting = tt })

pub tick_keeps : (b : EndRecord) (stage : StateData) → IsWaiting b.timers stage → IsInTime (due b stage) b.clock → Keeps b.timers (on_tick b stage)
unfolding cr_wait_tick wait_before_close_tick user_wait_tick ak_wait_tick opened_tick closing_tick
tick_keeps b (CrWait w) u soon =
    if_kept (Keeps b.timers) (nat_lt b.clock (w.tries.last + b.timers.t1)) _ _
    (λ _. record { timers = refl; waiting = tt })
    (λ _. if_kept (Keeps b.timers) (nat_lt w.tries.count b.timers.sendings) _ _ (λ _. record { timers = refl; waiting = tt }) (λ _. record { timers = refl; waiting = tt }))
tick_keeps b (WaitBeforeClose w) u soon =
    if_kept (Keeps b.timers) (nat_lt b.clock (w.request.tries.last + b.timers.t1)) _ _
    (λ _. record { timers = refl; waiting = tt })
    (λ _. if_kept (Keeps b.timers) (nat_lt w.request.tries.count b.timers.sendings) _ _ (λ _. record { timers = refl; waiting = tt }) (λ _. record { timers = refl; waiting = tt }))
tick_keeps b (UserWait since) u soon =
    if_kept (Keeps b.timers) (nat_lt b.clock (since + b.timers.inactive)) _ _ (λ _. record { timers = refl; waiting = tt }) (λ _. record { timers = refl; waiting = tt })
tick_keeps b (AkWait w) u soon =
    if_kept (Keeps b.timers) (nat_lt b.clock (w.tries.last + b.timers.t1)) _ _
    (λ _. record { timers = refl; waiting = u })
    (λ _. if_kept (Keeps b.timers) (nat_lt w.tries.count b.timers.sendings) _ _
    (λ few. record { timers = refl; waiting = once_more b w u soon (ltb-true _ _ few) })
    (λ _. record { timers = refl; waiting = tt }))
tick_keeps b (Opened o) u soon =
    if_kept (Keeps b.timers) (nat_le (o.took + b.timers.inactive) b.clock) _ _
    (λ _. record { timers = refl; waiting = tt })
    (λ _. goes_keeps (life_of (at b.clock o.halves.sending)) b o)
tick_keeps b (Closing c) u soon =
    if_kept (Keeps b.timers) (nat_le (c.from + span b.timers) b.clock) _ _
    (λ _. record { timers = refl; waiting = tt })
    (λ _. if_kept (Keeps b.timers) (nat_lt b.clock (c.last + b.timers.t1)) _ _ (λ _. record { timers = refl; waiting = tt }) (λ _. record { timers = refl; waiting = tt }))
tick_keeps b (Frozen when) u soon = record { timers = refl; waiting = tt }

-- ---- one end, by what holds of it between calls

late_at : (n : ℕ) (b : EndRecord) (stage : StateData) (now : ℕ) → n ≤ now → (IsDue (due b stage) n → ⊥) → IsDue (due (base_at now b) stage) n → ⊥
late_at n b (Frozen when) now bound low = frozen_late n (base_at now b) when bound
late_at n b stage now bound low = low

pub call_late : (n now : ℕ) (b : EndRecord) (stage : StateData) (call : UserCall) → IsTimed b.timers → MaySend stage → IsWaiting b.timers stage → n ≤ now → (IsDue (due b stage) n → ⊥)
    → Lasts b.timers n (on_call (base_at now b) stage call)
call_late n now b stage call timed sends waits bound low =
    call_lasts n (base_at now b) stage call (record { timed = timed; bound = bound }) sends waits (late_at n b stage now bound low)

pub tpdu_late : (wrap : ℕ → ℕ → ℕ) (n now : ℕ) (b : EndRecord) (stage : StateData) (tpdu : Tpdu) → IsTimed b.timers → MaySend stage → IsWaiting b.timers stage → n ≤ now → (IsDue (due b stage) n → ⊥)
    → Lasts b.timers n (on_tpdu wrap (base_at now b) stage tpdu)
tpdu_late wrap n now b stage tpdu timed sends waits bound low =
    tpdu_lasts wrap n (base_at now b) stage tpdu (record { timed = timed; bound = bound }) sends waits (late_at n b stage now bound low)

pub before_not : (due : Option ℕ) (now : ℕ) → IsBefore due now → IsDue due now → ⊥
before_not due now h = before_late due now now (omega arith) h

in_time_of : (due : Option ℕ) (now : ℕ) → ((n : ℕ) → n < now → IsDue due n → ⊥) → IsInTime due now
in_time_of None now h = tt
in_time_of (Some tick) now h = by (nat_lt tick now) refl
  where
    by : (test : Bool) → nat_lt tick now ≡ test → now ≤ tick
    by true e = absurd (h tick (ltb-true tick now e) (omega arith))
    by false e = ltb-false tick now e

in_time_not : (due : Option ℕ) (n now : ℕ) → n < now → IsInTime due now → IsDue due n → ⊥
in_time_not None n now low h k = k
in_time_not (Some tick) n now low h k = absurd (omega (arith, low, h, k))

-- ---- an end that sent a CC sent nothing else, whenever it is called

opened_waits : (wrap : ℕ → ℕ → ℕ) (t : Timers) (b : EndRecord) (o : InOpened) (tpdu : Tpdu) → IsWaiting t (opened_tpdu wrap b o tpdu).stage
unfolding opened_tpdu
opened_waits wrap t b o (Dt destination last number text) = by (dt_arrival o.halves.receiving number (record { last = last; octets = text })).got
  where
    by : (got : Got) → IsWaiting t (dt_as got b o (taken_dt wrap o.halves.receiving number (record { last = last; octets = text }))).stage
    by TooLarge = tt
    by got = tt
opened_waits wrap t b o (Ed destination last number text) = if_kept (λ (m : Moved). IsWaiting t m.stage) (is_expedited b.agreed) _ _ (λ _. tt) (λ _. tt)
opened_waits wrap t b o other = tt

tpdu_waits : (wrap : ℕ → ℕ → ℕ) (t : Timers) (b : EndRecord) (stage : StateData) (tpdu : Tpdu) → IsWaiting t stage → IsWaiting t (on_tpdu wrap b stage tpdu).stage
unfolding cr_wait_tpdu wait_before_close_tpdu ak_wait_tpdu closing_tpdu
tpdu_waits wrap t b (CrWait w) (Cc credit destination source width calling called size preferred extra version classes ack_time text) u =
    if_kept (λ (m : Moved). IsWaiting t m.stage) (is_within b.proposed width size preferred extra) _ _ (λ _. tt) (λ _. tt)
tpdu_waits wrap t b (WaitBeforeClose w) (Cc credit destination source width calling called size preferred extra version classes ack_time text) u = tt
tpdu_waits wrap t b (AkWait w) (Ak destination number credit subsequence confirmation) u = opened_waits wrap t b _ (Ak destination number credit subsequence confirmation)
tpdu_waits wrap t b (AkWait w) (Dt destination last number text) u = opened_waits wrap t b _ (Dt destination last number text)
tpdu_waits wrap t b (AkWait w) (Ed destination last number text) u = opened_waits wrap t b _ (Ed destination last number text)
tpdu_waits wrap t b (AkWait w) (Ea destination number) u = opened_waits wrap t b _ (Ea destination number)
tpdu_waits wrap t b (AkWait w) (Dr destination source reason info text) u = tt
tpdu_waits wrap t b (AkWait w) (Er destination cause rejected) u = tt
tpdu_waits wrap t b (AkWait w) other u = u
tpdu_waits wrap t b (Opened o) tpdu u = opened_waits wrap t b (hearing b o) tpdu
tpdu_waits wrap t b (Closing c) (Dc destination source) u = tt
tpdu_waits wrap t b stage tpdu u = tt

call_waits : (b : EndRecord) (stage : StateData) (call : UserCall) → IsTimed b.timers → IsWaiting b.timers stage → IsWaiting b.timers (on_call b stage call).stage
call_waits b (CrWait w) (Disconnect octets) timed u = tt
call_waits b (UserWait since) (Accept asked octets) timed u = accept_waits b asked octets timed
call_waits b (UserWait since) (Refuse octets) timed u = refuse_waits b octets
call_waits b (AkWait w) (Normal unit) timed u = shut_waits b.timers w _ u.shut u.window u.urgent u
call_waits b (AkWait w) (Urgent unit) timed u = shut_waits b.timers w _ u.shut u.window u.urgent u
call_waits b (AkWait w) (Disconnect octets) timed u = tt
call_waits b (AkWait w) other timed u = u
call_waits b (Opened o) (Window credit) timed u = if_kept (λ (m : Moved). IsWaiting b.timers m.stage) ((half_granted o.halves.receiving credit).receiver.inbox.credit == o.halves.receiving.receiver.inbox.credit) _ _ (λ _. tt) (λ _. tt)
call_waits b stage call timed u = tt

-- ---- by what a call says that it did

call_here : (base new : EndRecord) (stage was after : StateData) (now : ℕ) (call : UserCall) (before told : Told) → was ≡ stage → Does (on_call (base_at now base) was call) new after before told
    → Does (on_call (base_at now base) stage call) new after before told
call_here base new stage was after now call before told same does = subst (λ (s : StateData). Does (on_call (base_at now base) s call) new after before told) same does

tpdu_here : (base new : EndRecord) (stage was after : StateData) (now : ℕ) (tpdu : Tpdu) (before told : Told) → was ≡ stage → Does (on_tpdu wire (base_at now base) was tpdu) new after before told
    → Does (on_tpdu wire (base_at now base) stage tpdu) new after before told
tpdu_here base new stage was after now tpdu before told same does = subst (λ (s : StateData). Does (on_tpdu wire (base_at now base) s tpdu) new after before told) same does

did : (n : ℕ) (m : Moved) (base : EndRecord) (stage : StateData) (was new : Told) → Does m base stage was new → (IsDue (due m.base m.stage) n → ⊥) → IsDue (due base stage) n → ⊥
did n m base stage was new does h = subst (λ (e : End). IsDue (due e.base e.stage) n → ⊥) (λ i. record { base = sym does.base_is i; stage = sym does.stage_is i }) h

called_late : (n : ℕ) (base new : EndRecord) (stage was after : StateData) (now : ℕ) (call : UserCall) (before told : Told) → IsEnd base stage → IsWaiting base.timers stage → was ≡ stage
    → Does (on_call (base_at now base) was call) new after before told → n ≤ now → (IsDue (due base stage) n → ⊥) → IsDue (due new after) n → ⊥
called_late n base new stage was after now call before told is waits same does bound low =
    did n (on_call (base_at now base) stage call) new after before told (call_here base new stage was after now call before told same does)
    (call_late n now base stage call is.timers (may_send base stage is.sound) waits bound low).late

took_late : (n : ℕ) (base new : EndRecord) (stage was after : StateData) (now : ℕ) (tpdu : Tpdu) (before told : Told) → IsEnd base stage → IsWaiting base.timers stage → was ≡ stage
    → Does (on_tpdu wire (base_at now base) was tpdu) new after before told → n ≤ now → (IsDue (due base stage) n → ⊥) → IsDue (due new after) n → ⊥
took_late n base new stage was after now tpdu before told is waits same does bound low =
    did n (on_tpdu wire (base_at now base) stage tpdu) new after before told (tpdu_here base new stage was after now tpdu before told same does)
    (tpdu_late wire n now base stage tpdu is.timers (may_send base stage is.sound) waits bound low).late

pub called_later : (base new : EndRecord) (stage was after : StateData) (now : ℕ) (call : UserCall) (before told : Told) → IsEnd base stage → IsWaiting base.timers stage → was ≡ stage
    → Does (on_call (base_at now base) was call) new after before told → IsBefore (due base stage) now → IsBefore (due new after) now
called_later base new stage was after now call before told is waits same does low =
    before_is (due new after) now (called_late now base new stage was after now call before told is waits same does (omega arith) (before_not (due base stage) now low))

pub called_from : (base new : EndRecord) (stage was after : StateData) (now : ℕ) (call : UserCall) (before told : Told) → IsEnd base stage → IsWaiting base.timers stage → was ≡ stage
    → Does (on_call (base_at now base) was call) new after before told → IsInTime (due base stage) now → IsInTime (due new after) now
called_from base new stage was after now call before told is waits same does soon =
    in_time_of (due new after) now (λ n low. called_late n base new stage was after now call before told is waits same does (omega (arith, low)) (in_time_not (due base stage) n now low soon))

pub called_waits : (base new : EndRecord) (stage was after : StateData) (now : ℕ) (call : UserCall) (before told : Told) → IsEnd base stage → IsWaiting base.timers stage → was ≡ stage
    → Does (on_call (base_at now base) was call) new after before told → new.timers ≡ base.timers → IsWaiting new.timers after
called_waits base new stage was after now call before told is waits same does kept =
    let here = call_here base new stage was after now call before told same does in
    subst (λ (t : Timers). IsWaiting t after) (sym kept)
    (subst (λ (s : StateData). IsWaiting base.timers s) (sym here.stage_is) (call_waits (base_at now base) stage call is.timers waits))

pub took_later : (base new : EndRecord) (stage was after : StateData) (now : ℕ) (tpdu : Tpdu) (before told : Told) → IsEnd base stage → IsWaiting base.timers stage → was ≡ stage
    → Does (on_tpdu wire (base_at now base) was tpdu) new after before told → IsBefore (due base stage) now → IsBefore (due new after) now
took_later base new stage was after now tpdu before told is waits same does low =
    before_is (due new after) now (took_late now base new stage was after now tpdu before told is waits same does (omega arith) (before_not (due base stage) now low))

pub took_from : (base new : EndRecord) (stage was after : StateData) (now : ℕ) (tpdu : Tpdu) (before told : Told) → IsEnd base stage → IsWaiting base.timers stage → was ≡ stage
    → Does (on_tpdu wire (base_at now base) was tpdu) new after before told → IsInTime (due base stage) now → IsInTime (due new after) now
took_from base new stage was after now tpdu before told is waits same does soon =
    in_time_of (due new after) now (λ n low. took_late n base new stage was after now tpdu before told is waits same does (omega (arith, low)) (in_time_not (due base stage) n now low soon))

pub took_waits : (base new : EndRecord) (stage was after : StateData) (now : ℕ) (tpdu : Tpdu) (before told : Told) → IsWaiting base.timers stage → was ≡ stage
    → Does (on_tpdu wire (base_at now base) was tpdu) new after before told → new.timers ≡ base.timers → IsWaiting new.timers after
took_waits base new stage was after now tpdu before told waits same does kept =
    let here = tpdu_here base new stage was after now tpdu before told same does in
    subst (λ (t : Timers). IsWaiting t after) (sym kept)
    (subst (λ (s : StateData). IsWaiting base.timers s) (sym here.stage_is) (tpdu_waits wire base.timers (base_at now base) stage tpdu waits))

pub in_time_at : (b : EndRecord) (stage : StateData) (now : ℕ) → IsInTime (due b stage) now → IsInTime (due (base_at now b) stage) now
in_time_at b (Frozen when) now soon = by (due (base_at now b) (Frozen when)) (frozen_later (base_at now b) when)
  where
    by : (d : Option ℕ) → IsBefore d now → IsInTime d now
    by None h = tt
    by (Some tick) h = omega (arith, h)
in_time_at b (CrWait w) now soon = soon
in_time_at b (WaitBeforeClose w) now soon = soon
in_time_at b (UserWait since) now soon = soon
in_time_at b (AkWait w) now soon = soon
in_time_at b (Opened o) now soon = soon
in_time_at b (Closing c) now soon = soon

pub ticked_waits : (base : EndRecord) (stage was after : StateData) (now : ℕ) (before told : Told) → IsWaiting base.timers stage → IsInTime (due base stage) now → was ≡ stage
    → Does (on_tick (base_at now base) was) (base_at now base) after before told → IsWaiting base.timers after
ticked_waits base stage was after now before told waits soon same does =
    let here : Does (on_tick (base_at now base) stage) (base_at now base) after before told = subst (λ (s : StateData). Does (on_tick (base_at now base) s) (base_at now base) after before told) same does in
    let kept = tick_keeps (base_at now base) stage waits (in_time_at base stage now soon) in
    subst (λ (t : Timers). IsWaiting t after) kept.timers
    (subst (λ (s : StateData). IsWaiting (on_tick (base_at now base) stage).base.timers s) (sym here.stage_is) kept.waiting)
