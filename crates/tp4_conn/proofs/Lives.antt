-- The bounds hold along every list of events, and a frozen end stays as it is and sends nothing.
use Rattle.std.proofs.Common.{◌≡◌, ◌≤◌, ℕ, ◌+◌, Bool, true, false, ◌&&◌, not, List, [], ◌∷◌, Option, Some, None, refl, ap, sym, subst, arith, if◌then◌else◌}
use Rattle.tpdu.specs.declared.tpdu.Tpdu.{Tpdu}
use Rattle.tp4_conn.specs.declared.end_record.EndRecord.{EndRecord}
use Rattle.tp4_conn.specs.declared.call.UserCall.{UserCall}
use Rattle.tp4_conn.specs.declared.states.StateData.{StateData}
use Rattle.tp4_conn.specs.declared.states.StateData.TheVariants.{CrWait, WaitBeforeClose, UserWait, AkWait, Opened, Closing, Frozen}
use Rattle.tp4_conn.specs.declared.timers.Timers.{Timers}
use Rattle.tp4_conn.specs.End.{Moved, IsTimed, end_of, span}
use Rattle.tp4_conn.specs.Living.{Life, May, after, Leads, sent_by, IsInTime, IsOver, IsOverBy}
use Rattle.tp4_conn.specs.Matching.{wants_sum}
use Rattle.tp4_conn.specs.Table.{Event, Called, Took, Ticked, due, on_tpdu, on_tick, on_call, at, untaken}
use Rattle.tp4_conn.proofs.Timely.{Timely, Holds, tpdu_holds, tick_holds, call_holds, over}

pub record Lives (t : Timers) (life : Life) : Type 0 where
  pub timers : life.end.base.timers ≡ t
  pub timely : Timely t life.took life.end.stage
  pub low : life.took ≤ life.clock

abbrev IsNotFrozen : StateData → Type 0
IsNotFrozen (Frozen when) = ⊥
IsNotFrozen stage = Unit {0}

-- the due tick does not look at the clock, but for a frozen end, whose due tick bounds nothing
in_time : (b : EndRecord) (stage : StateData) (now : ℕ) → IsInTime (due b stage) now → IsNotFrozen stage → IsInTime (due (at now b) stage) now
in_time b (Frozen when) now h n = absurd n
in_time b stage now h n = h

-- an event keeps the bounds
called_lives : (b : EndRecord) (stage : StateData) (now took : ℕ) (call : UserCall) → IsTimed b.timers → Timely b.timers took stage → IsInTime (due b stage) now
    → Holds b.timers took (on_call (at now b) stage call)
called_lives b (Frozen when) now took call t h soon = record { timers = refl; timely = h }
called_lives b (CrWait w) now took call t h soon = call_holds (at now b) (CrWait w) call took t h soon
called_lives b (WaitBeforeClose w) now took call t h soon = call_holds (at now b) (WaitBeforeClose w) call took t h soon
called_lives b (UserWait since) now took call t h soon = call_holds (at now b) (UserWait since) call took t h soon
called_lives b (AkWait w) now took call t h soon = call_holds (at now b) (AkWait w) call took t h soon
called_lives b (Opened o) now took call t h soon = call_holds (at now b) (Opened o) call took t h soon
called_lives b (Closing c) now took call t h soon = call_holds (at now b) (Closing c) call took t h soon

ticked_lives : (b : EndRecord) (stage : StateData) (now took : ℕ) → Timely b.timers took stage → IsInTime (due b stage) now
    → Holds b.timers took (on_tick (at now b) stage)
ticked_lives b (Frozen when) now took h soon = record { timers = refl; timely = h }
ticked_lives b (CrWait w) now took h soon = tick_holds (at now b) (CrWait w) took h soon
ticked_lives b (WaitBeforeClose w) now took h soon = tick_holds (at now b) (WaitBeforeClose w) took h soon
ticked_lives b (UserWait since) now took h soon = tick_holds (at now b) (UserWait since) took h soon
ticked_lives b (AkWait w) now took h soon = tick_holds (at now b) (AkWait w) took h soon
ticked_lives b (Opened o) now took h soon = tick_holds (at now b) (Opened o) took h soon
ticked_lives b (Closing c) now took h soon = tick_holds (at now b) (Closing c) took h soon

lives : (t : Timers) (took now : ℕ) (m : Moved) → Holds t took m → took ≤ now → Lives t (record { end = end_of m; clock = now; took = took })
lives t took now m h low = record { timers = h.timers; timely = h.timely; low = low }

-- a TPDU that is taken, or one that lacks a checksum
took_lives : (wrap : ℕ → ℕ → ℕ) (b : EndRecord) (stage : StateData) (tpdu : Tpdu) (sum : Bool) (now took : ℕ) (lacks : Bool) → took ≤ now → Timely b.timers took stage
    → Lives b.timers (record {
      end = end_of (if lacks then untaken b stage else on_tpdu wrap (at now b) stage tpdu);
      clock = now;
      took = if lacks then took else now;
    })
took_lives wrap b stage tpdu sum now took true low h = record { timers = refl; timely = h; low = low }
took_lives wrap b stage tpdu sum now took false low h = lives _ _ _ _ (tpdu_holds wrap (at now b) stage tpdu took low h) (omega arith)

step_lives : (wrap : ℕ → ℕ → ℕ) (life : Life) (now : ℕ) (event : Event) → IsTimed life.end.base.timers → Lives life.end.base.timers life → May life now event
    → Lives life.end.base.timers (after wrap life now event)
step_lives wrap life now (Called call) t h may = lives _ _ _ _ (called_lives life.end.base life.end.stage now life.took call t h.timely may.in_time) (omega arith)
step_lives wrap life now (Took tpdu sum) t h may =
    let low : life.took ≤ now = omega arith in
    took_lives wrap life.end.base life.end.stage tpdu sum now life.took (wants_sum life.end.base life.end.stage tpdu && not sum) low h.timely
step_lives wrap life now Ticked t h may = lives _ _ _ _ (ticked_lives life.end.base life.end.stage now life.took h.timely may.in_time) (omega arith)

step_at : (wrap : ℕ → ℕ → ℕ) (t : Timers) (life : Life) (now : ℕ) (event : Event) → IsTimed t → life.end.base.timers ≡ t → Lives t life → May life now event
    → Lives t (after wrap life now event)
step_at wrap t life now event timed same h may =
    subst (λ (u : Timers). Lives u (after wrap life now event)) same
    (step_lives wrap life now event (subst (λ (u : Timers). IsTimed u) (sym same) timed) (subst (λ (u : Timers). Lives u life) (sym same) h) may)

pub all_lives : (wrap : ℕ → ℕ → ℕ) (t : Timers) (old : Life) (xs : List (ℕ × Event)) (last : Life) → IsTimed t → Lives t old → Leads wrap old xs last → Lives t last
all_lives wrap t old [] last timed h leads = subst (λ (l : Life). Lives t l) (sym leads) h
all_lives wrap t old (x ∷ xs) last timed h leads =
    all_lives wrap t (after wrap old x.0 x.1) xs last timed (step_at wrap t old x.0 x.1 timed h.timers h leads.0) leads.1

pub over_by : (t : Timers) (life : Life) → Lives t life → IsOverBy life.end (life.took + t.inactive + span t)
over_by t life h = subst (λ (u : Timers). IsOverBy life.end (life.took + u.inactive + span u)) h.timers
    (over life.end.base life.end.stage life.took (subst (λ (u : Timers). Timely u life.took life.end.stage) (sym h.timers) h.timely))

-- what holds by a tick holds by a later one
pub over_later : (stage : StateData) (next : Option ℕ) (one other : ℕ) → one ≤ other → IsOver stage next one → IsOver stage next other
over_later (Frozen when) next one other low h = omega arith
over_later stage (Some tick) one other low h = omega arith
over_later stage None one other low h = h

IsNever : Bool → Type 0
IsNever true = ⊥
IsNever false = Unit {0}

never : {A : Type 0} → false ≡ true → A
unfolding IsNever
never h = absurd (subst (λ (b : Bool). IsNever b) h tt)

-- a frozen end
abbrev pub frozen_life : EndRecord → ℕ → ℕ → ℕ → Life
frozen_life base when clock took = record { end = record { base = base; stage = Frozen when }; clock = clock; took = took }

pub all_still : (wrap : ℕ → ℕ → ℕ) (base : EndRecord) (when clock took : ℕ) (xs : List (ℕ × Event)) (last : Life)
    → Leads wrap (frozen_life base when clock took) xs last → (last.end.stage ≡ Frozen when) × (sent_by wrap (frozen_life base when clock took) xs ≡ [])
all_still wrap base when clock took [] last leads = (ap (λ (l : Life). l.end.stage) leads, refl)
all_still wrap base when clock took ((now, Called call) ∷ xs) last leads = all_still wrap (at now base) when now took xs last leads.1
all_still wrap base when clock took ((now, Ticked) ∷ xs) last leads = all_still wrap (at now base) when now took xs last leads.1
all_still wrap base when clock took ((now, Took tpdu sum) ∷ xs) last leads = never leads.0.fit
