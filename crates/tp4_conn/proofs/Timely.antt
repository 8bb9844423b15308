-- No row lets an end go on beyond I + N T1 from the last matching TPDU that it took. Each state keeps a bound on its
-- ticks from that one (`Timely`); each row keeps the bounds, given that the tick is not past that at which the end is due.
use Rattle.std.proofs.Common.{◌≡◌, ◌≤◌, ◌<◌, ℕ, ◌+◌, ◌*◌, ◌==◌, nat_lt, nat_le, List, Option, Some, None, refl, arith}
use Rattle.std.proofs.Math.Nat.{mul-le-mul_right}
use Rattle.std.proofs.lemmas.Bool.{ltb-true}
use Rattle.tpdu.specs.declared.tpdu.Tpdu.{Tpdu}
use Rattle.tpdu.specs.declared.tpdu.Tpdu.TheVariants.{Cc, Dr, Dc, Dt, Ed, Ak, Ea, Er}
use Rattle.tp4_number.specs.declared.got.Got.{Got}
use Rattle.tp4_number.specs.declared.got.Got.TheVariants.{TooLarge}
use Rattle.tp4_number.proofs.Past.{if_kept}
use Rattle.tp4_flow.specs.ReceivingHalf.{Half, Received}
use Rattle.tp4_flow.specs.declared.rules.Life.{Life as Ends}
use Rattle.tp4_flow.specs.declared.rules.Life.TheVariants.{Goes, Exhausted}
use Rattle.tpdu.specs.declared.service.Options.{Options}
use Rattle.tp4_flow.specs.declared.step.EndEvent.{EndEvent}
use Rattle.tp4_flow.specs.declared.step.Sent.{Sent}
use Rattle.tp4_sending.specs.SendingHalf.{at, life_of, due_of}
use Rattle.tp4_sending.specs.Pieces.{sooner}
use Rattle.tp4_sending.specs.declared.tries.Tries.{Tries}
use Rattle.tp4_conn.specs.declared.end_record.EndRecord.{EndRecord}
use Rattle.tp4_conn.specs.declared.call.UserCall.{UserCall}
use Rattle.tp4_conn.specs.declared.call.UserCall.TheVariants.{Accept, Refuse, Window, Disconnect}
use Rattle.tp4_conn.specs.declared.states.InAkWait.{InAkWait}
use Rattle.tp4_conn.specs.declared.states.InOpened.{InOpened}
use Rattle.tp4_conn.specs.declared.states.InWaitBeforeClose.{InWaitBeforeClose}
use Rattle.tp4_conn.specs.declared.states.InClosing.{InClosing}
use Rattle.tp4_conn.specs.declared.states.InCrWait.{InCrWait}
use Rattle.tp4_conn.specs.declared.states.StateData.{StateData}
use Rattle.tp4_conn.specs.declared.states.StateData.TheVariants.{CrWait, WaitBeforeClose, UserWait, AkWait, Opened, Closing, Frozen}
use Rattle.tp4_conn.specs.declared.timers.Timers.{Timers}
use Rattle.tp4_conn.specs.Agreeing.{is_within}
use Rattle.tp4_conn.specs.AkWait.{ak_wait_tpdu, ak_wait_tick}
use Rattle.tp4_conn.specs.Closing.{closing_tpdu, closing_tick}
use Rattle.tp4_conn.specs.CrWait.{cr_wait_tpdu, cr_wait_tick}
use Rattle.tp4_conn.specs.End.{Moved, IsTimed, led_by, span}
use Rattle.tp4_conn.specs.Living.{IsInTime, IsOver}
use Rattle.tp4_conn.specs.Opened.{hearing, opened_tpdu, opened_tick, opened_as, dt_as, granting, is_expedited}
use Rattle.tp4_conn.specs.Table.{on_tpdu, on_tick, on_call, due}
use Rattle.tp4_conn.specs.UserWait.{user_wait_accept, user_wait_refuse, user_wait_tick}
use Rattle.tp4_conn.specs.WaitBeforeClose.{wait_before_close_tpdu, wait_before_close_tick}

-- so many sendings, T1 apart at most, from that tick on
pub record Trying (t : Timers) (from : ℕ) (tries : Tries) : Type 0 where
  pub runs : tries.last + t.t1 ≤ from + tries.count * t.t1
  pub few : tries.count ≤ t.sendings

abbrev pub Timely : Timers → ℕ → StateData → Type 0
Timely t took (CrWait w) = Trying t took w.tries
Timely t took (WaitBeforeClose w) = Trying t took w.request.tries
Timely t took (UserWait since) = since ≤ took
Timely t took (AkWait w) = (w.first ≤ took + t.inactive) × Trying t w.first w.tries
Timely t took (Opened o) = o.took ≤ took
Timely t took (Closing c) = c.from ≤ took + t.inactive
Timely t took (Frozen when) = when ≤ took + t.inactive + span t

-- a row keeps the timers and the bounds
pub record Holds (t : Timers) (took : ℕ) (m : Moved) : Type 0 where
  pub timers : m.base.timers ≡ t
  pub timely : Timely t took m.stage

pub later : (t : Timers) (took now : ℕ) (tries : Tries) → took ≤ now → Trying t took tries → Trying t now tries
later t took now tries low h = record { runs = omega arith; few = h.few }

-- a TPDU
cr_tpdu : (b : EndRecord) (w : InCrWait) (tpdu : Tpdu) (took : ℕ) → took ≤ b.clock → Trying b.timers took w.tries
    → Holds b.timers b.clock (cr_wait_tpdu b w tpdu)
unfolding cr_wait_tpdu
cr_tpdu b w (Cc credit destination source width calling called size preferred extra version classes ack_time text) took low h =
    if_kept (Holds b.timers b.clock) (is_within b.proposed width size preferred extra) _ _
    (λ _. record { timers = refl; timely = omega arith })
    (λ _. record { timers = refl; timely = omega arith })
cr_tpdu b w (Dr destination source reason info text) took low h = record { timers = refl; timely = omega arith }
cr_tpdu b w other took low h = record { timers = refl; timely = later _ _ _ _ low h }

wait_tpdu : (b : EndRecord) (w : InWaitBeforeClose) (tpdu : Tpdu) (took : ℕ) → took ≤ b.clock → Trying b.timers took w.request.tries
    → Holds b.timers b.clock (wait_before_close_tpdu b w tpdu)
unfolding wait_before_close_tpdu
wait_tpdu b w (Cc credit destination source width calling called size preferred extra version classes ack_time text) took low h =
    record { timers = refl; timely = omega arith }
wait_tpdu b w (Dr destination source reason info text) took low h = record { timers = refl; timely = omega arith }
wait_tpdu b w other took low h = record { timers = refl; timely = later _ _ _ _ low h }

dt_holds : (got : Got) (b : EndRecord) (o : InOpened) (r : Received) → o.took ≤ b.clock → Holds b.timers b.clock (dt_as got b o r)
dt_holds TooLarge b o r low = record { timers = refl; timely = omega arith }
dt_holds got b o r low = record { timers = refl; timely = omega arith }

opened_takes : (wrap : ℕ → ℕ → ℕ) (b : EndRecord) (o : InOpened) (tpdu : Tpdu) → o.took ≤ b.clock → Holds b.timers b.clock (opened_tpdu wrap b o tpdu)
unfolding opened_tpdu
opened_takes wrap b o (Dt destination last number text) low = dt_holds _ b o _ low
opened_takes wrap b o (Ed destination last number text) low =
    if_kept (Holds b.timers b.clock) (is_expedited b.agreed) _ _
    (λ _. record { timers = refl; timely = low })
    (λ _. record { timers = refl; timely = omega arith })
opened_takes wrap b o (Dr destination source reason info text) low = record { timers = refl; timely = omega arith }
opened_takes wrap b o (Er destination cause rejected) low = record { timers = refl; timely = omega arith }
opened_takes wrap b o other low = record { timers = refl; timely = low }

led : (t : Timers) (took : ℕ) (events : List EndEvent) (tpdus : List Sent) (m : Moved) → Holds t took m → Holds t took (led_by events tpdus m)
led t took events tpdus m h = record { timers = h.timers; timely = h.timely }

ak_tpdu : (wrap : ℕ → ℕ → ℕ) (b : EndRecord) (w : InAkWait) (tpdu : Tpdu) (took : ℕ) → took ≤ b.clock
    → w.first ≤ took + b.timers.inactive → Trying b.timers w.first w.tries → Holds b.timers b.clock (ak_wait_tpdu wrap b w tpdu)
unfolding ak_wait_tpdu
ak_tpdu wrap b w (Ak destination number credit subsequence confirmation) took low early tried = led _ _ _ _ _ (opened_takes wrap b _ _ (omega arith))
ak_tpdu wrap b w (Dt destination last number text) took low early tried = led _ _ _ _ _ (opened_takes wrap b _ _ (omega arith))
ak_tpdu wrap b w (Ed destination last number text) took low early tried = led _ _ _ _ _ (opened_takes wrap b _ _ (omega arith))
ak_tpdu wrap b w (Ea destination number) took low early tried = led _ _ _ _ _ (opened_takes wrap b _ _ (omega arith))
ak_tpdu wrap b w (Dr destination source reason info text) took low early tried = record { timers = refl; timely = omega arith }
ak_tpdu wrap b w (Er destination cause rejected) took low early tried = record { timers = refl; timely = omega arith }
ak_tpdu wrap b w other took low early tried = record { timers = refl; timely = (omega arith, tried) }

closing_takes : (b : EndRecord) (c : InClosing) (tpdu : Tpdu) (took : ℕ) → took ≤ b.clock → c.from ≤ took + b.timers.inactive
    → Holds b.timers b.clock (closing_tpdu b c tpdu)
unfolding closing_tpdu
closing_takes b c (Dc destination source) took low early = record { timers = refl; timely = omega arith }
closing_takes b c (Dr destination source cause info text) took low early = record { timers = refl; timely = omega arith }
closing_takes b c other took low early = record { timers = refl; timely = omega arith }

pub tpdu_holds : (wrap : ℕ → ℕ → ℕ) (b : EndRecord) (stage : StateData) (tpdu : Tpdu) (took : ℕ) → took ≤ b.clock → Timely b.timers took stage
    → Holds b.timers b.clock (on_tpdu wrap b stage tpdu)
tpdu_holds wrap b (CrWait w) tpdu took low h = cr_tpdu b w tpdu took low h
tpdu_holds wrap b (WaitBeforeClose w) tpdu took low h = wait_tpdu b w tpdu took low h
tpdu_holds wrap b (UserWait since) tpdu took low h = record { timers = refl; timely = omega arith }
tpdu_holds wrap b (AkWait w) tpdu took low h = ak_tpdu wrap b w tpdu took low h.0 h.1
tpdu_holds wrap b (Opened o) tpdu took low h = opened_takes wrap b (hearing b o) tpdu (omega arith)
tpdu_holds wrap b (Closing c) tpdu took low h = closing_takes b c tpdu took low h
tpdu_holds wrap b (Frozen when) tpdu took low h = record { timers = refl; timely = omega arith }

-- sendings
once_more : (t : Timers) (from now : ℕ) (tries : Tries) → Trying t from tries → now ≤ tries.last + t.t1 → tries.count < t.sendings
    → Trying t from (record { last = now; count = tries.count + 1 })
once_more t from now tries h soon few = record { runs = omega arith; few = omega arith }

at_last : (t : Timers) (from now : ℕ) (tries : Tries) → Trying t from tries → now ≤ tries.last + t.t1 → now ≤ from + span t
at_last t from now tries h soon = let all : tries.count * t.t1 ≤ t.sendings * t.t1 = mul-le-mul_right t.t1 h.few in omega arith

-- a tick
cr_tick : (b : EndRecord) (w : InCrWait) (took : ℕ) → Trying b.timers took w.tries → b.clock ≤ w.tries.last + b.timers.t1
    → Holds b.timers took (cr_wait_tick b w)
unfolding cr_wait_tick
cr_tick b w took h soon =
    let low : b.clock ≤ took + span b.timers = at_last b.timers took b.clock w.tries h soon in
    if_kept (Holds b.timers took) (nat_lt b.clock (w.tries.last + b.timers.t1)) _ _
    (λ _. record { timers = refl; timely = h })
    (λ _. if_kept (Holds b.timers took) (nat_lt w.tries.count b.timers.sendings) _ _
    (λ few. record { timers = refl; timely = once_more _ _ _ _ h soon (ltb-true _ _ few) })
    (λ _. record { timers = refl; timely = omega arith }))

wait_tick : (b : EndRecord) (w : InWaitBeforeClose) (took : ℕ) → Trying b.timers took w.request.tries → b.clock ≤ w.request.tries.last + b.timers.t1
    → Holds b.timers took (wait_before_close_tick b w)
unfolding wait_before_close_tick
wait_tick b w took h soon =
    let low : b.clock ≤ took + span b.timers = at_last b.timers took b.clock w.request.tries h soon in
    if_kept (Holds b.timers took) (nat_lt b.clock (w.request.tries.last + b.timers.t1)) _ _
    (λ _. record { timers = refl; timely = h })
    (λ _. if_kept (Holds b.timers took) (nat_lt w.request.tries.count b.timers.sendings) _ _
    (λ few. record { timers = refl; timely = once_more _ _ _ _ h soon (ltb-true _ _ few) })
    (λ _. record { timers = refl; timely = omega arith }))

user_tick : (b : EndRecord) (since took : ℕ) → since ≤ took → b.clock ≤ since + b.timers.inactive → Holds b.timers took (user_wait_tick b since)
unfolding user_wait_tick
user_tick b since took h soon =
    if_kept (Holds b.timers took) (nat_lt b.clock (since + b.timers.inactive)) _ _
    (λ _. record { timers = refl; timely = h })
    (λ _. record { timers = refl; timely = omega arith })

ak_tick : (b : EndRecord) (w : InAkWait) (took : ℕ) → w.first ≤ took + b.timers.inactive → Trying b.timers w.first w.tries
    → b.clock ≤ w.tries.last + b.timers.t1 → Holds b.timers took (ak_wait_tick b w)
unfolding ak_wait_tick
ak_tick b w took early tried soon =
    let low : b.clock ≤ w.first + span b.timers = at_last b.timers w.first b.clock w.tries tried soon in
    if_kept (Holds b.timers took) (nat_lt b.clock (w.tries.last + b.timers.t1)) _ _
    (λ _. record { timers = refl; timely = (early, tried) })
    (λ _. if_kept (Holds b.timers took) (nat_lt w.tries.count b.timers.sendings) _ _
    (λ few. record { timers = refl; timely = (early, once_more _ _ _ _ tried soon (ltb-true _ _ few)) })
    (λ _. record { timers = refl; timely = omega arith }))

opened_life : (life : Ends) (b : EndRecord) (o : InOpened) (took : ℕ) → o.took ≤ took → b.clock ≤ o.took + b.timers.inactive
    → Holds b.timers took (opened_as life b o)
opened_life Exhausted b o took low soon = record { timers = refl; timely = omega arith }
opened_life Goes b o took low soon =
    if_kept (Holds b.timers took) (nat_le (o.acked + b.timers.window) b.clock) _ _
    (λ _. record { timers = refl; timely = low })
    (λ _. record { timers = refl; timely = low })

opened_ticks : (b : EndRecord) (o : InOpened) (took : ℕ) → o.took ≤ took → b.clock ≤ o.took + b.timers.inactive
    → Holds b.timers took (opened_tick b o)
unfolding opened_tick
opened_ticks b o took low soon =
    if_kept (Holds b.timers took) (nat_le (o.took + b.timers.inactive) b.clock) _ _
    (λ _. record { timers = refl; timely = omega arith })
    (λ _. opened_life (life_of (at b.clock o.halves.sending)) b o took low soon)

closing_ticks : (b : EndRecord) (c : InClosing) (took : ℕ) → c.from ≤ took + b.timers.inactive → b.clock ≤ c.from + span b.timers
    → Holds b.timers took (closing_tick b c)
unfolding closing_tick
closing_ticks b c took early soon =
    if_kept (Holds b.timers took) (nat_le (c.from + span b.timers) b.clock) _ _
    (λ _. record { timers = refl; timely = omega arith })
    (λ _. if_kept (Holds b.timers took) (nat_lt b.clock (c.last + b.timers.t1)) _ _
    (λ _. record { timers = refl; timely = early })
    (λ _. record { timers = refl; timely = early }))

-- the first of several ticks bounds the time
first_of_three : (x y now : ℕ) (z : Option ℕ) → IsInTime (sooner (sooner (Some x) (Some y)) z) now → now ≤ x
first_of_three x y now None h = omega arith
first_of_three x y now (Some z) h = omega arith

opened_soon : (b : EndRecord) (o : InOpened) → IsInTime (due b (Opened o)) b.clock → b.clock ≤ o.took + b.timers.inactive
opened_soon b o soon = first_of_three _ (o.acked + b.timers.window) _ (due_of o.halves.sending) soon

pub tick_holds : (b : EndRecord) (stage : StateData) (took : ℕ) → Timely b.timers took stage → IsInTime (due b stage) b.clock → Holds b.timers took (on_tick b stage)
tick_holds b (CrWait w) took h soon = cr_tick b w took h soon
tick_holds b (WaitBeforeClose w) took h soon = wait_tick b w took h soon
tick_holds b (UserWait since) took h soon = user_tick b since took h soon
tick_holds b (AkWait w) took h soon = ak_tick b w took h.0 h.1 soon
tick_holds b (Opened o) took h soon = opened_ticks b o took h (opened_soon b o soon)
tick_holds b (Closing c) took h soon = closing_ticks b c took h (omega arith)
tick_holds b (Frozen when) took h soon = record { timers = refl; timely = h }

-- a call
accept_holds : (b : EndRecord) (asked : Options) (octets : List ℕ) (took : ℕ) → IsTimed b.timers → b.clock ≤ took + b.timers.inactive
    → Holds b.timers took (user_wait_accept b asked octets)
unfolding user_wait_accept
accept_holds b asked octets took t soon = let least : 2 ≤ b.timers.sendings = t.sendings_least in
    record { timers = refl; timely = (soon, record { runs = omega arith; few = omega arith }) }

refuse_holds : (b : EndRecord) (octets : List ℕ) (took : ℕ) → b.clock ≤ took + b.timers.inactive → Holds b.timers took (user_wait_refuse b octets)
unfolding user_wait_refuse
refuse_holds b octets took soon = record { timers = refl; timely = omega arith }

grant_holds : (b : EndRecord) (o : InOpened) (new : Half) (took : ℕ) → o.took ≤ took → Holds b.timers took (granting b o new)
grant_holds b o new took low =
    if_kept (Holds b.timers took) (new.receiver.inbox.credit == o.halves.receiving.receiver.inbox.credit) _ _
    (λ _. record { timers = refl; timely = low })
    (λ _. record { timers = refl; timely = low })

pub call_holds : (b : EndRecord) (stage : StateData) (call : UserCall) (took : ℕ) → IsTimed b.timers → Timely b.timers took stage → IsInTime (due b stage) b.clock
    → Holds b.timers took (on_call b stage call)
call_holds b (CrWait w) (Disconnect octets) took t h soon = record { timers = refl; timely = h }
call_holds b (UserWait since) (Accept asked octets) took t h soon = accept_holds b asked octets took t (omega arith)
call_holds b (UserWait since) (Refuse octets) took t h soon = refuse_holds b octets took (omega arith)
call_holds b (AkWait w) (Disconnect octets) took t h soon = record { timers = refl; timely = h.0 }
call_holds b (Opened o) (Window credit) took t h soon = grant_holds b o _ took h
call_holds b (Opened o) (Disconnect octets) took t h soon =
    let low : b.clock ≤ o.took + b.timers.inactive = opened_soon b o soon in record { timers = refl; timely = omega arith }
call_holds b stage call took t h soon = record { timers = refl; timely = h }

-- so the end is over by then
opened_over : (x y last : ℕ) (z : Option ℕ) (o : InOpened) → x ≤ last → IsOver (Opened o) (sooner (sooner (Some x) (Some y)) z) last
opened_over x y last None o low = omega arith
opened_over x y last (Some z) o low = omega arith

pub over : (b : EndRecord) (stage : StateData) (took : ℕ) → Timely b.timers took stage → IsOver stage (due b stage) (took + b.timers.inactive + span b.timers)
over b (CrWait w) took h = let low : w.tries.last + b.timers.t1 ≤ took + span b.timers = at_last b.timers took _ w.tries h (omega arith) in omega arith
over b (WaitBeforeClose w) took h =
    let low : w.request.tries.last + b.timers.t1 ≤ took + span b.timers = at_last b.timers took _ w.request.tries h (omega arith) in omega arith
over b (UserWait since) took h = omega arith
over b (AkWait w) took h =
    let low : w.tries.last + b.timers.t1 ≤ w.first + span b.timers = at_last b.timers w.first _ w.tries h.1 (omega arith) in
    let early : w.first ≤ took + b.timers.inactive = h.0 in omega arith
over b (Opened o) took h = opened_over _ (o.acked + b.timers.window) _ (due_of o.halves.sending) o (omega arith)
over b (Closing c) took h = omega arith
over b (Frozen when) took h = h
