-- By cases on the state and the event: each step of an end that goes on is a move, and an end that is frozen stays as it is seen. An end
-- that goes on is due at a tick, and by then it is not past its latest.
use Rattle.std.proofs.Common.{◌≡◌, ℕ, ◌+◌, ◌<◌, ◌≤◌, min, Bool, true, false, ◌&&◌, not, [], Option, Some, None, le_of_eq, refl, sym, ◌∙◌, ap, subst, arith, if◌then◌else◌}
use Rattle.std.proofs.lemmas.Option.{none-some, same_Some}
use Rattle.tpdu.specs.declared.tpdu.Tpdu.{Tpdu as WireTpdu}
use Rattle.tp4_sending.specs.SendingHalf.{due_of}
use Rattle.tp4_sending.specs.Pieces.{sooner}
use Rattle.tp4_conn.specs.declared.end_record.EndRecord.{EndRecord}
use Rattle.tp4_conn.specs.declared.call.UserCall.{UserCall}
use Rattle.tp4_conn.specs.declared.call.UserCall.TheVariants.{Accept, Refuse, Normal, Urgent, Window, Disconnect}
use Rattle.tp4_conn.specs.declared.halves.Halves.{Halves}
use Rattle.tp4_conn.specs.declared.states.StateData.{StateData}
use Rattle.tp4_conn.specs.declared.states.StateData.TheVariants as stages
use Rattle.tp4_conn.specs.Calls.{IsCall}
use Rattle.tp4_conn.specs.Dues.{IsBefore}
use Rattle.tp4_conn.specs.End.{End as ConnEnd, IsProposal, end_of, span}
use Rattle.tp4_conn.specs.Living.{IsInTime, IsFit}
use Rattle.tp4_conn.specs.Matching.{fits, wants_sum}
use Rattle.tp4_conn.specs.Proper.{IsProper, IsProperEvent, IsProperStage}
use Rattle.tp4_conn.specs.Table.{Event, Called, Took as Heard, Ticked, at, on_tpdu, on_tick, on_call, stepped, untaken, due}
use Rattle.law_tp4_history.specs.Ends.{Times, Birth, End, Alone, Took}
use Rattle.law_tp4_history.specs.Moves.{stop_of, AreOwn, IsSeenIn, acts_by, Sees, HasSource, IsSourced, cause_of, Moves}
use Rattle.law_tp4_history.specs.Seen.{seen}
use Rattle.law_tp4_history.proofs.Called.{accepts, user_refuses, user_tick, ak_tpdu, ak_tick, normal_queued, urgent_queued, ak_parts}
use Rattle.law_tp4_history.proofs.Calling.{never, cr_tpdu, cr_tick, cr_parts, wait_tpdu, wait_tick}
use Rattle.law_tp4_history.proofs.Closes.{closing_takes, closing_ticks}
use Rattle.law_tp4_history.proofs.Opens.{opened_takes, normal_sent, urgent_sent, credit_granted, opened_parts, opened_ticks}
use Rattle.law_tp4_history.proofs.Rows.{still_seen, rests, all_tries}

-- the clock of an end is not seen
own_at : (now : ℕ) (b : EndRecord) (halves : Halves) → AreOwn b halves → AreOwn (at now b) halves
own_at now b halves own = record { terms = own.terms; agreed = own.agreed; sending = own.sending; receiving = own.receiving }

state_at : (now : ℕ) (birth : Birth) (took latest : ℕ) (b : EndRecord) (stage : StateData) → IsSeenIn birth took latest b stage → IsSeenIn birth took latest (at now b) stage
state_at now birth took latest b (stages.CrWait w) f =
    record { calls = f.calls; unknown = f.unknown; unagreed = f.unagreed; octets = f.octets; tries = f.tries; latest_is = f.latest_is }
state_at now birth took latest b (stages.WaitBeforeClose w) f =
    record { calls = f.calls; unknown = f.unknown; unagreed = f.unagreed; octets = f.octets; tries = f.tries; latest_is = f.latest_is }
state_at now birth took latest b (stages.UserWait since) f = record { called = f.called; known = f.known; unagreed = f.unagreed; made = f.made; latest_is = f.latest_is }
state_at now birth took latest b (stages.AkWait w) f =
    record { called = f.called; known = f.known; halves = own_at now b w.halves f.halves; shut = f.shut; tries = f.tries; latest_is = f.latest_is }
state_at now birth took latest b (stages.Opened o) f = record { known = f.known; halves = own_at now b o.halves f.halves; took_is = f.took_is; latest_is = f.latest_is }
state_at now birth took latest b (stages.Closing c) f = record { known = f.known; latest_is = f.latest_is }
state_at now birth took latest b (stages.Frozen when) f = tt

bound_at : (now tick : ℕ) (b : EndRecord) (stage : StateData) → IsInTime (acts_by b stage) tick → IsInTime (acts_by (at now b) stage) tick
bound_at now tick b (stages.Frozen when) f = tt
bound_at now tick b other f = f

sees_at : (times : Times) (now tick : ℕ) (h : End) (b : EndRecord) (stage : StateData) → Sees times tick h (record { base = b; stage = stage })
    → Sees times tick h (record { base = at now b; stage = stage })
sees_at times now tick h b stage s =
    still_seen times tick tick h h b (at now b) stage stage s s.phase s.stop s.is_held s.known s.agreed s.parted (state_at now h.birth h.took h.latest b stage s.state) (bound_at now tick b stage s.timely)

-- the tick by which the end acts is there, and by its latest
pub record IsBy (latest : ℕ) (tick : Option ℕ) : Type 0 where
  pub next : ℕ
  pub is : tick ≡ Some next
  pub low : next ≤ latest

acts_in : (birth : Birth) (took latest : ℕ) (b : EndRecord) (stage : StateData) → stop_of stage ≡ None → IsSeenIn birth took latest b stage → IsBy latest (acts_by b stage)
acts_in birth took latest b (stages.CrWait w) e f =
    let low = all_tries b.timers birth.made w.tries f.tries in record { next = w.tries.last + b.timers.t1; is = refl; low = omega (arith, low, f.latest_is) }
acts_in birth took latest b (stages.WaitBeforeClose w) e f =
    let low = all_tries b.timers birth.made w.request.tries f.tries in record { next = w.request.tries.last + b.timers.t1; is = refl; low = omega (arith, low, f.latest_is) }
acts_in birth took latest b (stages.UserWait since) e f = record { next = since + b.timers.inactive; is = refl; low = omega (arith, f.latest_is) }
acts_in birth took latest b (stages.AkWait w) e f =
    let low = all_tries b.timers w.first w.tries f.tries in record { next = w.tries.last + b.timers.t1; is = refl; low = omega (arith, low, f.latest_is) }
acts_in birth took latest b (stages.Opened o) e f = record { next = o.took + b.timers.inactive; is = refl; low = omega (arith, f.took_is, f.latest_is) }
acts_in birth took latest b (stages.Closing c) e f = record { next = c.from + span b.timers; is = refl; low = omega (arith, f.latest_is) }
acts_in birth took latest b (stages.Frozen when) e f = absurd (none-some _ (sym e))

acts_by_latest : (times : Times) (now : ℕ) (h : End) (e : ConnEnd) → Sees times now h e → h.stop ≡ None → IsBy h.latest (acts_by e.base e.stage)
acts_by_latest times now h e s going = acts_in h.birth h.took h.latest e.base e.stage (sym s.stop ∙ going) s.state

-- it is due by then
first_due : (bound x y : ℕ) (z : Option ℕ) → x ≤ bound → IsBy bound (sooner (sooner (Some x) (Some y)) z)
first_due bound x y None low = record { next = min x y; is = refl; low = omega arith }
first_due bound x y (Some z) low = record { next = min (min x y) z; is = refl; low = omega arith }

due_in : (b : EndRecord) (stage : StateData) (bound : ℕ) → acts_by b stage ≡ Some bound → IsBy bound (due b stage)
due_in b (stages.CrWait w) bound e = record { next = w.tries.last + b.timers.t1; is = refl; low = le_of_eq (same_Some _ _ e) }
due_in b (stages.WaitBeforeClose w) bound e = record { next = w.request.tries.last + b.timers.t1; is = refl; low = le_of_eq (same_Some _ _ e) }
due_in b (stages.UserWait since) bound e = record { next = since + b.timers.inactive; is = refl; low = le_of_eq (same_Some _ _ e) }
due_in b (stages.AkWait w) bound e = record { next = w.tries.last + b.timers.t1; is = refl; low = le_of_eq (same_Some _ _ e) }
due_in b (stages.Opened o) bound e =
    first_due bound (o.took + b.timers.inactive) (o.acked + b.timers.window) (due_of o.halves.sending) (le_of_eq (same_Some _ _ e))
due_in b (stages.Closing c) bound e =
    let is : c.from + span b.timers ≡ bound = same_Some _ _ e in record { next = min (c.from + span b.timers) (c.last + b.timers.t1); is = refl; low = omega (arith, is) }
due_in b (stages.Frozen when) bound e = absurd (none-some _ e)

pub due_by : (times : Times) (now : ℕ) (h : End) (e : ConnEnd) → Sees times now h e → h.stop ≡ None → IsBy h.latest (due e.base e.stage)
due_by times now h e s going =
    let a = acts_by_latest times now h e s going in
    let d = due_in e.base e.stage a.next a.is in record { next = d.next; is = d.is; low = omega (arith, d.low, a.low) }

pub by_latest : (times : Times) (now : ℕ) (h : End) (e : ConnEnd) → Sees times now h e → h.stop ≡ None → now ≤ h.latest
by_latest times now h e s going =
    let a = acts_by_latest times now h e s going in
    let low : now ≤ a.next = subst (λ (t : Option ℕ). IsInTime t now) a.is s.timely in omega (arith, low, a.low)

first_before : (x y now : ℕ) (z : Option ℕ) → IsBefore (sooner (sooner (Some x) (Some y)) z) now → now + 1 ≤ x
first_before x y now None before = omega arith
first_before x y now (Some z) before = omega arith

-- a tick at which it is not due passes
passes : (b : EndRecord) (stage : StateData) (now : ℕ) → IsBefore (due b stage) now → IsInTime (acts_by b stage) (now + 1)
passes b (stages.Opened o) now before = first_before (o.took + b.timers.inactive) (o.acked + b.timers.window) now (due_of o.halves.sending) before
passes b (stages.Frozen when) now before = tt
passes b other now before = omega arith

pub passed : (times : Times) (now : ℕ) (h : End) (e : ConnEnd) → Sees times now h e → IsBefore (due e.base e.stage) now → Sees times (now + 1) h e
passed times now h e s before =
    still_seen times now (now + 1) h h e.base e.base e.stage e.stage s s.phase s.stop s.is_held s.known s.agreed s.parted s.state (passes e.base e.stage now before)

pub before_latest : (times : Times) (now : ℕ) (h : End) (e : ConnEnd) → Sees times now h e → h.stop ≡ None → IsBefore (due e.base e.stage) now → now < h.latest
before_latest times now h e s going before =
    let d = due_by times now h e s going in
    let low : now < d.next = subst (λ (t : Option ℕ). IsBefore t now) d.is before in omega (arith, low, d.low)

-- the tick is the clock of b
call_moves : (times : Times) (h : End) (b : EndRecord) (stage : StateData) → Sees times b.clock h (record { base = b; stage = stage }) → h.stop ≡ None → b.clock ≤ h.latest → IsProposal b.proposed → (call : UserCall) → IsCall call
    → Moves times b.clock Alone h (on_call b stage call)
call_moves times h b (stages.CrWait w) s going low proposal (Disconnect octets) may = cr_parts times h b w s going low octets
call_moves times h b (stages.UserWait since) s going low proposal (Accept asked octets) may = accepts times h b since s going low asked octets proposal may
call_moves times h b (stages.UserWait since) s going low proposal (Refuse octets) may = user_refuses times h b since s going low octets
call_moves times h b (stages.AkWait w) s going low proposal (Normal unit) may = normal_queued times h b w s going low unit
call_moves times h b (stages.AkWait w) s going low proposal (Urgent unit) may = urgent_queued times h b w s going low unit
call_moves times h b (stages.AkWait w) s going low proposal (Disconnect octets) may = ak_parts times h b w s going low octets
call_moves times h b (stages.Opened o) s going low proposal (Normal unit) may = normal_sent times h b o s going low unit
call_moves times h b (stages.Opened o) s going low proposal (Urgent unit) may = urgent_sent times h b o s going low unit
call_moves times h b (stages.Opened o) s going low proposal (Window credit) may = credit_granted times h b o s going low credit
call_moves times h b (stages.Opened o) s going low proposal (Disconnect octets) may = opened_parts times h b o s going low octets
call_moves times h b stage s going low proposal call may = rests times h b stage s going low

tick_moves : (times : Times) (h : End) (b : EndRecord) (stage : StateData) → Sees times b.clock h (record { base = b; stage = stage }) → h.stop ≡ None → b.clock ≤ h.latest → IsProperStage b.agreed stage
    → Moves times b.clock Alone h (on_tick b stage)
tick_moves times h b (stages.CrWait w) s going low proper = cr_tick times h b w s going low
tick_moves times h b (stages.WaitBeforeClose w) s going low proper = wait_tick times h b w s going low
tick_moves times h b (stages.UserWait since) s going low proper = user_tick times h b since s going low
tick_moves times h b (stages.AkWait w) s going low proper = ak_tick times h b w s going low proper.1
tick_moves times h b (stages.Opened o) s going low proper = opened_ticks times h b o s going low
tick_moves times h b (stages.Closing c) s going low proper = closing_ticks times h b c s going low
tick_moves times h b (stages.Frozen when) s going low proper = rests times h b (stages.Frozen when) s going low

tpdu_moves : (wrap : ℕ → ℕ → ℕ) (times : Times) (h : End) (b : EndRecord) (stage : StateData) → Sees times b.clock h (record { base = b; stage = stage }) → h.stop ≡ None → b.clock ≤ h.latest
    → (n : ℕ) (tpdu : WireTpdu) (was : EndRecord) → fits was stage tpdu ≡ true → HasSource (seen n tpdu) → Moves times b.clock (Took (seen n tpdu)) h (on_tpdu wrap b stage tpdu)
tpdu_moves wrap times h b (stages.CrWait w) s going low n tpdu was fit has = cr_tpdu times h b w s going low n tpdu fit has
tpdu_moves wrap times h b (stages.WaitBeforeClose w) s going low n tpdu was fit has = wait_tpdu times h b w s going low n tpdu fit has
tpdu_moves wrap times h b (stages.AkWait w) s going low n tpdu was fit has = ak_tpdu times h b w s going low wrap n tpdu
tpdu_moves wrap times h b (stages.Opened o) s going low n tpdu was fit has = opened_takes times h b o s going low wrap n tpdu
tpdu_moves wrap times h b (stages.Closing c) s going low n tpdu was fit has = closing_takes times h b c s going low n tpdu
tpdu_moves wrap times h b other s going low n tpdu was fit has = never fit

-- a TPDU that is taken, or one that lacks a checksum
untaken_moves : (times : Times) (now : ℕ) (h : End) (b : EndRecord) (stage : StateData) → Moves times now Alone h (record { base = at now b; stage = stage; events = []; tpdus = [] })
    → Moves times now Alone h (untaken b stage)
untaken_moves times now h b stage m = record { new = m.new; sees = sees_at times b.clock now m.new (at now b) stage m.sees; move = m.move }

took_moves : (wrap : ℕ → ℕ → ℕ) (times : Times) (now : ℕ) (h : End) (b : EndRecord) (stage : StateData) → Sees times now h (record { base = b; stage = stage }) → h.stop ≡ None → now ≤ h.latest
    → (n : ℕ) (tpdu : WireTpdu) → fits b stage tpdu ≡ true → HasSource (seen n tpdu) → (lacks : Bool)
    → Moves times now (if lacks then Alone else Took (seen n tpdu)) h (if lacks then untaken b stage else on_tpdu wrap (at now b) stage tpdu)
took_moves wrap times now h b stage s going low n tpdu fit has true =
    untaken_moves times now h b stage (rests times h (at now b) stage (sees_at times now now h b stage s) going low)
took_moves wrap times now h b stage s going low n tpdu fit has false =
    tpdu_moves wrap times h (at now b) stage (sees_at times now now h b stage s) going low n tpdu b fit has

pub moved : (wrap : ℕ → ℕ → ℕ) (times : Times) (now n : ℕ) (h : End) (e : ConnEnd) (event : Event) → Sees times now h e → h.stop ≡ None → IsFit e event → IsSourced n event → IsProper e.base e.stage → IsProperEvent e event
    → Moves times now (cause_of e n event) h (stepped wrap now e event)
moved wrap times now n h e (Called call) s going fit has proper may =
    call_moves times h (at now e.base) e.stage (sees_at times now now h e.base e.stage s) going (by_latest times now h e s going) proper.size call may.1
moved wrap times now n h e (Heard tpdu sum) s going fit has proper may =
    took_moves wrap times now h e.base e.stage s going (by_latest times now h e s going) n tpdu fit has (wants_sum e.base e.stage tpdu && not sum)
moved wrap times now n h e Ticked s going fit has proper may =
    tick_moves times h (at now e.base) e.stage (sees_at times now now h e.base e.stage s) going (by_latest times now h e s going) proper.state

-- an end that is frozen
pub stays : (wrap : ℕ → ℕ → ℕ) (times : Times) (now t : ℕ) (h : End) (e : ConnEnd) (event : Event) → Sees times now h e → h.stop ≡ Some t → IsFit e event
    → Sees times now h (end_of (stepped wrap now e event)) × ((stepped wrap now e event).events ≡ []) × ((stepped wrap now e event).tpdus ≡ [])
stays wrap times now t h e event s stop = by e.base e.stage event s (sym s.stop ∙ stop)
  where
    by : (b : EndRecord) (stage : StateData) (event : Event) → Sees times now h (record { base = b; stage = stage }) → stop_of stage ≡ Some t → IsFit (record { base = b; stage = stage }) event
        → Sees times now h (end_of (stepped wrap now (record { base = b; stage = stage }) event))
        × ((stepped wrap now (record { base = b; stage = stage }) event).events ≡ []) × ((stepped wrap now (record { base = b; stage = stage }) event).tpdus ≡ [])
    by b (stages.Frozen when) (Called call) s is fit = (sees_at times now now h b (stages.Frozen when) s, refl, refl)
    by b (stages.Frozen when) (Heard tpdu sum) s is fit = never fit
    by b (stages.Frozen when) Ticked s is fit = (sees_at times now now h b (stages.Frozen when) s, refl, refl)
    by b (stages.CrWait w) event s is fit = absurd (none-some _ is)
    by b other event s is fit = absurd (none-some _ is)

-- since when it is frozen
pub frozen_since : (times : Times) (now t : ℕ) (h : End) (e : ConnEnd) → Sees times now h e → h.stop ≡ Some t → e.stage ≡ stages.Frozen t
frozen_since times now t h e s stop = by e.stage (sym s.stop ∙ stop)
  where
    by : (stage : StateData) → stop_of stage ≡ Some t → stage ≡ stages.Frozen t
    by (stages.Frozen when) is = ap (λ (n : ℕ). stages.Frozen n) (same_Some _ _ is)
    by other is = absurd (none-some _ is)
