-- An end that has left will not be Opened any more.
use Rattle.std.proofs.Common.{ℕ, ◌+◌, nat_lt, nat_le, ◌&&◌, not}
use Rattle.tpdu.specs.declared.tpdu.Tpdu.{Tpdu}
use Rattle.tpdu.specs.declared.tpdu.Tpdu.TheVariants.{Cc, Dc}
use Rattle.tp4_number.specs.Number.{whole}
use Rattle.tp4_number.proofs.Past.{if_kept}
use Rattle.tp4_conn.specs.declared.end_record.EndRecord.{EndRecord}
use Rattle.tp4_conn.specs.declared.call.UserCall.{UserCall}
use Rattle.tp4_conn.specs.declared.states.InWaitBeforeClose.{InWaitBeforeClose}
use Rattle.tp4_conn.specs.declared.states.InClosing.{InClosing}
use Rattle.tp4_conn.specs.declared.states.StateData.{StateData}
use Rattle.tp4_conn.specs.declared.states.StateData.TheVariants.{WaitBeforeClose, Closing, Frozen}
use Rattle.tp4_conn.specs.Closing.{closing_tpdu, closing_tick}
use Rattle.tp4_conn.specs.End.{End, Moved, span}
use Rattle.tp4_conn.specs.Matching.{wants_sum}
use Rattle.tp4_conn.specs.Table.{Event, Called, Took, Ticked, at, on_call, on_tick, on_tpdu, stepped}
use Rattle.tp4_conn.specs.WaitBeforeClose.{wait_before_close_tpdu, wait_before_close_tick}
use Rattle.law_tp4_pair.specs.Standing.{HasLeft}

abbrev Leaves : Moved → Type 0
Leaves m = HasLeft m.stage

parting_tpdu : (b : EndRecord) (w : InWaitBeforeClose) (tpdu : Tpdu) → Leaves (wait_before_close_tpdu b w tpdu)
unfolding wait_before_close_tpdu
parting_tpdu b w (Cc credit destination source width calling called size preferred extra version classes ack_time text) = tt
parting_tpdu b w other = tt

closes : (b : EndRecord) (c : InClosing) (tpdu : Tpdu) → Leaves (closing_tpdu b c tpdu)
unfolding closing_tpdu
closes b c (Dc destination source) = tt
closes b c other = tt

parting_tick : (b : EndRecord) (w : InWaitBeforeClose) → Leaves (wait_before_close_tick b w)
unfolding wait_before_close_tick
parting_tick b w = if_kept Leaves (nat_lt b.clock (w.request.tries.last + b.timers.t1)) _ _ (λ _. tt) (λ _. if_kept Leaves (nat_lt w.request.tries.count b.timers.sendings) _ _ (λ _. tt) (λ _. tt))

closes_later : (b : EndRecord) (c : InClosing) → Leaves (closing_tick b c)
unfolding closing_tick
closes_later b c = if_kept Leaves (nat_le (c.from + span b.timers) b.clock) _ _ (λ _. tt) (λ _. if_kept Leaves (nat_lt b.clock (c.last + b.timers.t1)) _ _ (λ _. tt) (λ _. tt))

pub takes_left : (b : EndRecord) (stage : StateData) (tpdu : Tpdu) → HasLeft stage → Leaves (on_tpdu whole b stage tpdu)
takes_left b (WaitBeforeClose w) tpdu left = parting_tpdu b w tpdu
takes_left b (Closing c) tpdu left = closes b c tpdu
takes_left b (Frozen when) tpdu left = tt
takes_left b other tpdu left = absurd left

pub calls_left : (b : EndRecord) (stage : StateData) (call : UserCall) → HasLeft stage → Leaves (on_call b stage call)
calls_left b (WaitBeforeClose w) call left = tt
calls_left b (Closing c) call left = tt
calls_left b (Frozen when) call left = tt
calls_left b other call left = absurd left

pub ticks_left : (b : EndRecord) (stage : StateData) → HasLeft stage → Leaves (on_tick b stage)
ticks_left b (WaitBeforeClose w) left = parting_tick b w
ticks_left b (Closing c) left = closes_later b c
ticks_left b (Frozen when) left = tt
ticks_left b other left = absurd left

pub stays_left : (now : ℕ) (e : End) (event : Event) → HasLeft e.stage → HasLeft (stepped whole now e event).stage
stays_left now e (Called call) left = calls_left (at now e.base) e.stage call left
stays_left now e (Took tpdu sum) left = if_kept Leaves (wants_sum e.base e.stage tpdu && not sum) _ _ (λ _. left) (λ _. takes_left (at now e.base) e.stage tpdu left)
stays_left now e Ticked left = ticks_left (at now e.base) e.stage left
