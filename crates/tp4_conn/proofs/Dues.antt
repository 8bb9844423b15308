-- By cases on the state: before the due tick each test of the tick's row fails; after the row each tick kept is now, or
-- was found to be later.
use Rattle.std.proofs.Common.{◌≡◌, ◌≢◌, ◌≤◌, ◌<◌, ℕ, ◌+◌, ◌*◌, ◌∙◌, min, Bool, true, false, nat_lt, nat_le, List, [], ◌∷◌, ◌++◌, length, Option, Some, None, refl, sym, subst, ap, arith, inl, inr, if◌then◌else◌}
use Rattle.std.proofs.Math.Nat.{mul-le-mul_right}
use Rattle.std.proofs.lemmas.Bool.{cases_lt, ltb-true, ltb-false, leb-false, lt-leb, lt-ltb}
use Rattle.tp4_number.proofs.Past.{if_kept}
use Rattle.tp4_flow.specs.declared.rules.Life.{Life as Ends}
use Rattle.tp4_flow.specs.declared.rules.Life.TheVariants.{Goes, Exhausted}
use Rattle.tp4_flow.specs.declared.step.EndEvent.{EndEvent}
use Rattle.tp4_flow.specs.declared.step.Sent.{Sent}
use Rattle.tp4_flow.specs.Told.{Told}
use Rattle.tp4_sending.specs.SendingHalf.{FlowSender, Sendings, at, nothing, life_of, ticked, due_of}
use Rattle.tp4_sending.specs.Pieces.{again, sooner}
use Rattle.tp4_sending.specs.Settled.{IsDue}
use Rattle.tp4_sending.proofs.Dues.{before_due, least}
use Rattle.tp4_sending.proofs.Laters.{tick_later}
use Rattle.tp4_conn.specs.declared.end_record.EndRecord.{EndRecord}
use Rattle.tp4_conn.specs.declared.states.InAkWait.{InAkWait}
use Rattle.tp4_conn.specs.declared.states.InOpened.{InOpened}
use Rattle.tp4_conn.specs.declared.states.StateData.{StateData}
use Rattle.tp4_conn.specs.declared.states.StateData.TheVariants.{CrWait, WaitBeforeClose, UserWait, AkWait, Opened, Closing, Frozen}
use Rattle.tp4_conn.specs.declared.timers.Timers.{Timers}
use Rattle.tp4_conn.specs.AkWait.{ak_wait_tick}
use Rattle.tp4_conn.specs.Closing.{closing_tick}
use Rattle.tp4_conn.specs.CrWait.{cr_wait_tick}
use Rattle.tp4_conn.specs.Dues.{IsBefore, IsRunning, clocked}
use Rattle.tp4_conn.specs.Dues.{IsDue as TickDue}
use Rattle.tp4_conn.specs.End.{Does, End, Moved, IsTimed, end_of, stays, frozen, span, frozen_for}
use Rattle.tp4_conn.specs.Frozen.{frozen_due}
use Rattle.tp4_conn.specs.Opened.{opened_tick, opened_as, opened_goes, sending}
use Rattle.tp4_conn.specs.Table.{at as now_at, on_tick, due}
use Rattle.tp4_conn.specs.UserWait.{user_wait_tick}
use Rattle.tp4_conn.specs.steps.Kept.{IsEnd, IsSound}
use Rattle.tp4_conn.specs.WaitBeforeClose.{wait_before_close_tick}

-- the same of a sending half: before it is due its tick changes its clock alone, and from then on more; where it goes on, it is due later
record IsPunctual (s : FlowSender) (now : ℕ) : Type 0 where
  goes : IsBefore (due_of s) now → life_of (at now s) ≡ Goes
  before : IsBefore (due_of s) now → ticked (at now s) ≡ nothing (at now s)
  there : IsDue (due_of s) now → life_of (at now s) ≡ Goes → ticked (at now s) ≢ nothing (at now s)
  after : life_of (at now s) ≡ Goes → IsBefore (due_of (ticked (at now s)).sender) now

abbrev ArePunctual : StateData → ℕ → Type 0
ArePunctual (Opened o) now = IsPunctual o.halves.sending now
ArePunctual stage now = Unit {0}

-- where it goes on, it is due later
abbrev ArePrompt : StateData → ℕ → Type 0
ArePrompt (Opened o) now = life_of (at now o.halves.sending) ≡ Goes → IsBefore (due_of (ticked (at now o.halves.sending)).sender) now
ArePrompt stage now = Unit {0}

pub before_is : (due : Option ℕ) (now : ℕ) → (IsDue due now → ⊥) → IsBefore due now
before_is None now h = tt
before_is (Some tick) now h = elim (cases_lt now tick) [ inl less ↦ less | inr more ↦ absurd (h more) ]

not_before : (due : Option ℕ) (now : ℕ) → IsBefore due now → IsDue due now → ⊥
not_before None now h k = k
not_before (Some tick) now h k = absurd (omega (arith, h, k))

-- an open half is prompt
later : (s : FlowSender) (now : ℕ) → s.is_open ≡ true → 1 ≤ s.rules.t1 → life_of (at now s) ≡ Goes → IsBefore (due_of (ticked (at now s)).sender) now
later s now o some life = before_is (due_of (ticked (at now s)).sender) now (tick_later (at now s) o some life)

-- and punctual
punctual : (s : FlowSender) (now : ℕ) → s.is_open ≡ true → 1 ≤ s.rules.t1 → IsPunctual s now
punctual s now o some = record {
  goes = λ b. (before_due s now o (not_before (due_of s) now b)).0;
  before = λ b. (before_due s now o (not_before (due_of s) now b)).1;
  there = λ e life same. elim ((least s now o).1 e) [
    | inl gone ↦ goes-exhausted (sym life ∙ gone)
    | inr acts ↦ acts same
  ];
  after = later s now o some;
}
  where
    IsGoing : Ends → Type 0
    IsGoing Goes = Unit {0}
    IsGoing Exhausted = ⊥

    goes-exhausted : Goes ≡ Exhausted → ⊥
    goes-exhausted e = subst (λ (l : Ends). IsGoing l) e tt

stage_punctual : (stage : StateData) (now : ℕ) → IsRunning stage → ArePunctual stage now
stage_punctual (Opened o) now p = punctual o.halves.sending now p.0 p.1
stage_punctual stage now p = tt

punctual_prompt : (stage : StateData) (now : ℕ) → ArePunctual stage now → ArePrompt stage now
punctual_prompt (Opened o) now s = s.after
punctual_prompt stage now s = tt

if_true : {A : Type 0} (b : Bool) (x y : A) → b ≡ true → (if b then x else y) ≡ x
if_true true x y h = refl
if_true false x y h = ap (λ (c : Bool). if c then x else y) h

if_false : {A : Type 0} (b : Bool) (x y : A) → b ≡ false → (if b then x else y) ≡ y
if_false false x y h = refl
if_false true x y h = ap (λ (c : Bool). if c then x else y) h

pub record AllBefore (x y : ℕ) (z : Option ℕ) (now : ℕ) : Type 0 where
  pub first : now < x
  pub second : now < y
  pub third : IsBefore z now

all_before : (x y : ℕ) (z : Option ℕ) (now : ℕ) → IsBefore (sooner (sooner (Some x) (Some y)) z) now → AllBefore x y z now
all_before x y None now h = record { first = omega arith; second = omega arith; third = tt }
all_before x y (Some z) now h = record { first = omega arith; second = omega arith; third = omega arith }

before_all : (x y : ℕ) (z : Option ℕ) (now : ℕ) → now < x → now < y → IsBefore z now → IsBefore (sooner (sooner (Some x) (Some y)) z) now
before_all x y None now first second third = omega arith
before_all x y (Some z) now first second third = omega arith

-- before it is due
opened_before : (b : EndRecord) (o : InOpened) → IsPunctual o.halves.sending b.clock
    → AllBefore (o.took + b.timers.inactive) (o.acked + b.timers.window) (due_of o.halves.sending) b.clock
    → opened_tick b o ≡ stays b (clocked b.clock (Opened o))
unfolding opened_tick
opened_before b o settled a =
    if_false (nat_le (o.took + b.timers.inactive) b.clock) _ _ (lt-leb _ _ a.first)
    ∙ ap (λ (life : Ends). opened_as life b o) (settled.goes a.third)
    ∙ ap (λ (s : Sendings). opened_goes b o s) (settled.before a.third)
    ∙ if_false (nat_le (o.acked + b.timers.window) b.clock) _ _ (lt-leb _ _ a.second)

tick_before : (b : EndRecord) (stage : StateData) → ArePunctual stage b.clock → IsBefore (due b stage) b.clock → on_tick b stage ≡ stays b (clocked b.clock stage)
unfolding cr_wait_tick wait_before_close_tick user_wait_tick ak_wait_tick closing_tick
tick_before b (CrWait w) s h = if_true (nat_lt b.clock (w.tries.last + b.timers.t1)) _ _ (lt-ltb _ _ h)
tick_before b (WaitBeforeClose w) s h = if_true (nat_lt b.clock (w.request.tries.last + b.timers.t1)) _ _ (lt-ltb _ _ h)
tick_before b (UserWait since) s h = if_true (nat_lt b.clock (since + b.timers.inactive)) _ _ (lt-ltb _ _ h)
tick_before b (AkWait w) s h = if_true (nat_lt b.clock (w.tries.last + b.timers.t1)) _ _ (lt-ltb _ _ h)
tick_before b (Opened o) s h = opened_before b o s (all_before _ _ (due_of o.halves.sending) _ h)
tick_before b (Closing c) s h =
    if_false (nat_le (c.from + span b.timers) b.clock) _ _ (lt-leb _ _ (omega arith))
    ∙ if_true (nat_lt b.clock (c.last + b.timers.t1)) _ _ (lt-ltb _ _ (omega arith))
tick_before b (Frozen when) s h = refl

-- after a tick
abbrev pub Later : ℕ → Moved → Type 0
Later now m = IsBefore (due m.base m.stage) now

pub frozen_later : (b : EndRecord) (when : ℕ) → IsBefore (frozen_due b when) b.clock
frozen_later b when =
    if_kept (λ (d : Option ℕ). IsBefore d b.clock) (nat_lt (when + frozen_for b.timers) b.clock) _ _
    (λ _. tt)
    (λ f. let low : b.clock ≤ when + frozen_for b.timers = ltb-false _ _ f in omega arith)

span_some : (t : Timers) → IsTimed t → 0 < span t
span_some t timed = let some : 1 * t.t1 ≤ t.sendings * t.t1 = mul-le-mul_right t.t1 (omega (arith, timed.sendings_least)) in
    let least : 1 ≤ t.t1 = timed.t1_least in omega arith

opened_life : (life : Ends) (b : EndRecord) (o : InOpened) → IsTimed b.timers → b.clock < o.took + b.timers.inactive
    → (life ≡ Goes → IsBefore (due_of (ticked (at b.clock o.halves.sending)).sender) b.clock) → Later b.clock (opened_as life b o)
opened_life Exhausted b o timed low settled =
    let some : 0 < span b.timers = span_some b.timers timed in let least : 1 ≤ b.timers.t1 = timed.t1_least in omega arith
opened_life Goes b o timed low settled =
    if_kept (Later b.clock) (nat_le (o.acked + b.timers.window) b.clock) _ _
    (λ _. before_all _ (b.clock + b.timers.window) (due_of (ticked (at b.clock o.halves.sending)).sender) _ low (omega (arith, timed.window_least)) (settled refl))
    (λ f. before_all _ (o.acked + b.timers.window) (due_of (ticked (at b.clock o.halves.sending)).sender) _ low (leb-false _ _ f) (settled refl))

tick_after : (b : EndRecord) (stage : StateData) → IsTimed b.timers → ArePrompt stage b.clock → Later b.clock (on_tick b stage)
unfolding cr_wait_tick wait_before_close_tick user_wait_tick ak_wait_tick opened_tick closing_tick
tick_after b (CrWait w) timed s =
    if_kept (Later b.clock) (nat_lt b.clock (w.tries.last + b.timers.t1)) _ _
    (λ t. ltb-true _ _ t)
    (λ _. if_kept (Later b.clock) (nat_lt w.tries.count b.timers.sendings) _ _ (λ _. omega (arith, timed.t1_least)) (λ _. frozen_later b b.clock))
tick_after b (WaitBeforeClose w) timed s =
    if_kept (Later b.clock) (nat_lt b.clock (w.request.tries.last + b.timers.t1)) _ _
    (λ t. ltb-true _ _ t)
    (λ _. if_kept (Later b.clock) (nat_lt w.request.tries.count b.timers.sendings) _ _ (λ _. omega (arith, timed.t1_least)) (λ _. frozen_later b b.clock))
tick_after b (UserWait since) timed s =
    if_kept (Later b.clock) (nat_lt b.clock (since + b.timers.inactive)) _ _ (λ t. ltb-true _ _ t) (λ _. frozen_later b b.clock)
tick_after b (AkWait w) timed s =
    if_kept (Later b.clock) (nat_lt b.clock (w.tries.last + b.timers.t1)) _ _
    (λ t. ltb-true _ _ t)
    (λ _. if_kept (Later b.clock) (nat_lt w.tries.count b.timers.sendings) _ _ (λ _. omega (arith, timed.t1_least)) (λ _. frozen_later b b.clock))
tick_after b (Opened o) timed s =
    if_kept (Later b.clock) (nat_le (o.took + b.timers.inactive) b.clock) _ _
    (λ _. let some : 0 < span b.timers = span_some b.timers timed in omega (arith, timed.t1_least))
    (λ f. opened_life (life_of (at b.clock o.halves.sending)) b o timed (leb-false _ _ f) s)
tick_after b (Closing c) timed s =
    if_kept (Later b.clock) (nat_le (c.from + span b.timers) b.clock) _ _
    (λ _. frozen_later b b.clock)
    (λ f. let low : b.clock < c.from + span b.timers = leb-false _ _ f in
    if_kept (Later b.clock) (nat_lt b.clock (c.last + b.timers.t1)) _ _
    (λ t. let soon : b.clock < c.last + b.timers.t1 = ltb-true _ _ t in omega arith)
    (λ _. omega (arith, timed.t1_least)))
tick_after b (Frozen when) timed s = frozen_later b when

-- when it is due: a TPDU is sent, or the end is frozen, or counts one more sending
abbrev Moves : EndRecord → StateData → Moved → Type 0
Moves b old m = m ≢ stays b old

sends_some : (b : EndRecord) (old stage : StateData) (events : List EndEvent) (sent : Sent) (tpdus : List Sent)
    → Moves b old (record { base = b; stage = stage; events = events; tpdus = sent ∷ tpdus })
sends_some b old stage events sent tpdus e = let none : length (sent ∷ tpdus) ≡ 0 = ap (λ (m : Moved). length m.tpdus) e in absurd (omega (arith, none))

is_frozen : StateData → Bool
is_frozen (Frozen when) = true
is_frozen stage = false

freezes : (b : EndRecord) (old : StateData) (events : List EndEvent) (tpdus : List Sent) → is_frozen old ≡ false → Moves b old (frozen b events tpdus)
unfolding is_frozen
freezes b old events tpdus live e = let is : true ≡ is_frozen old = ap (λ (m : Moved). is_frozen m.stage) e in absurd (cc (is, live))

count_of : StateData → ℕ
count_of (AkWait w) = w.tries.count
count_of stage = 0

sends_again : (b : EndRecord) (w : InAkWait) (tpdus : List Sent)
    → Moves b (AkWait w) (record { base = b; stage = AkWait (record w { tries = again b.clock w.tries }); events = []; tpdus = tpdus })
unfolding count_of
sends_again b w tpdus e = let more : w.tries.count + 1 ≡ w.tries.count = ap (λ (m : Moved). count_of m.stage) e in absurd (omega (arith, more))

-- a sending half that is due, where nothing else is
third : (x y now : ℕ) (z : Option ℕ) → IsDue (sooner (sooner (Some x) (Some y)) z) now → now < x → now < y → IsDue z now
third x y now None e first second = absurd (omega (arith, e, first, second))
third x y now (Some z) e first second = omega (arith, e, first, second)

sender_in : FlowSender → StateData → FlowSender
sender_in none (Opened o) = o.halves.sending
sender_in none stage = none

sending_moves : (b : EndRecord) (o : InOpened) (x : Sendings) → x ≢ nothing (at b.clock o.halves.sending) → Moves b (clocked b.clock (Opened o)) (sending b o x)
unfolding sender_in
sending_moves b o x some e = some (λ i. record {
  sender = ap (λ (m : Moved). sender_in x.sender m.stage) e i;
  events = ap (λ (m : Moved). m.events) e i;
  tpdus = ap (λ (m : Moved). m.tpdus) e i;
})

led_some : (b : EndRecord) (old stage : StateData) (events : List EndEvent) (tpdus : List Sent) (sent : Sent)
    → Moves b old (record { base = b; stage = stage; events = events; tpdus = tpdus ++ sent ∷ [] })
led_some b old stage events [] sent e = let none : length (sent ∷ []) ≡ 0 = ap (λ (m : Moved). length m.tpdus) e in absurd (omega (arith, none))
led_some b old stage events (first ∷ tpdus) sent e =
    let none : length (first ∷ (tpdus ++ sent ∷ [])) ≡ 0 = ap (λ (m : Moved). length m.tpdus) e in absurd (omega (arith, none))

opened_moves : (life : Ends) (b : EndRecord) (o : InOpened) → life_of (at b.clock o.halves.sending) ≡ life → IsPunctual o.halves.sending b.clock
    → IsDue (due b (Opened o)) b.clock → b.clock < o.took + b.timers.inactive → Moves b (clocked b.clock (Opened o)) (opened_as life b o)
opened_moves Exhausted b o life settled e early = sends_some b _ _ _ _ []
opened_moves Goes b o life settled e early =
    if_kept (Moves b (clocked b.clock (Opened o))) (nat_le (o.acked + b.timers.window) b.clock) _ _
    (λ _. led_some b _ _ _ (ticked (at b.clock o.halves.sending)).tpdus _)
    (λ f. sending_moves b o _ (settled.there (third (o.took + b.timers.inactive) (o.acked + b.timers.window) b.clock (due_of o.halves.sending) e early (leb-false _ _ f)) life))

frozen_past : (b : EndRecord) (when : ℕ) → IsDue (frozen_due b when) b.clock → ⊥
frozen_past b when =
    if_kept (λ (d : Option ℕ). IsDue d b.clock → ⊥) (nat_lt (when + frozen_for b.timers) b.clock) _ _
    (λ _ e. e)
    (λ f e. let low : b.clock ≤ when + frozen_for b.timers = ltb-false _ _ f in absurd (omega (arith, low, e)))

tick_there : (b : EndRecord) (stage : StateData) → ArePunctual stage b.clock → IsDue (due b stage) b.clock → Moves b (clocked b.clock stage) (on_tick b stage)
unfolding cr_wait_tick wait_before_close_tick user_wait_tick ak_wait_tick opened_tick closing_tick is_frozen
tick_there b (CrWait w) s e =
    let now : w.tries.last + b.timers.t1 ≤ b.clock = e in
    if_kept (Moves b (CrWait w)) (nat_lt b.clock (w.tries.last + b.timers.t1)) _ _
    (λ t. let low : b.clock < w.tries.last + b.timers.t1 = ltb-true _ _ t in absurd (omega arith))
    (λ _. if_kept (Moves b (CrWait w)) (nat_lt w.tries.count b.timers.sendings) _ _ (λ _. sends_some b _ _ _ _ []) (λ _. freezes b _ _ _ refl))
tick_there b (WaitBeforeClose w) s e =
    let now : w.request.tries.last + b.timers.t1 ≤ b.clock = e in
    if_kept (Moves b (WaitBeforeClose w)) (nat_lt b.clock (w.request.tries.last + b.timers.t1)) _ _
    (λ t. let low : b.clock < w.request.tries.last + b.timers.t1 = ltb-true _ _ t in absurd (omega arith))
    (λ _. if_kept (Moves b (WaitBeforeClose w)) (nat_lt w.request.tries.count b.timers.sendings) _ _ (λ _. sends_some b _ _ _ _ []) (λ _. freezes b _ _ _ refl))
tick_there b (UserWait since) s e =
    let now : since + b.timers.inactive ≤ b.clock = e in
    if_kept (Moves b (UserWait since)) (nat_lt b.clock (since + b.timers.inactive)) _ _
    (λ t. let low : b.clock < since + b.timers.inactive = ltb-true _ _ t in absurd (omega arith))
    (λ _. freezes b _ _ _ refl)
tick_there b (AkWait w) s e =
    let now : w.tries.last + b.timers.t1 ≤ b.clock = e in
    if_kept (Moves b (AkWait w)) (nat_lt b.clock (w.tries.last + b.timers.t1)) _ _
    (λ t. let low : b.clock < w.tries.last + b.timers.t1 = ltb-true _ _ t in absurd (omega arith))
    (λ _. if_kept (Moves b (AkWait w)) (nat_lt w.tries.count b.timers.sendings) _ _ (λ _. sends_again b w _) (λ _. freezes b _ _ _ refl))
tick_there b (Opened o) s e =
    if_kept (Moves b (clocked b.clock (Opened o))) (nat_le (o.took + b.timers.inactive) b.clock) _ _
    (λ _. sends_some b _ _ _ _ [])
    (λ f. opened_moves _ b o refl s e (leb-false _ _ f))
tick_there b (Closing c) s e =
    let least : min (c.from + span b.timers) (c.last + b.timers.t1) ≤ b.clock = e in
    if_kept (Moves b (Closing c)) (nat_le (c.from + span b.timers) b.clock) _ _
    (λ _. freezes b _ _ _ refl)
    (λ f. let low : b.clock < c.from + span b.timers = leb-false _ _ f in
    if_kept (Moves b (Closing c)) (nat_lt b.clock (c.last + b.timers.t1)) _ _
    (λ t. let soon : b.clock < c.last + b.timers.t1 = ltb-true _ _ t in absurd (omega arith))
    (λ _. sends_some b _ _ _ _ []))
tick_there b (Frozen when) s e = absurd (frozen_past b when e)

pub running_due : (b : EndRecord) (stage : StateData) → IsTimed b.timers → IsRunning stage → TickDue b stage
running_due b stage timed runs =
    let s = stage_punctual stage b.clock runs in
    record { before = tick_before b stage s; there = tick_there b stage s; after = tick_after b stage timed (punctual_prompt stage b.clock s) }

-- what holds of each end between calls is enough for that
sound_prompt : (b : EndRecord) (stage : StateData) (now : ℕ) → IsSound b stage → ArePrompt stage now
sound_prompt b (Opened o) now sound = later o.halves.sending now sound.3 sound.2.t1
sound_prompt b stage now sound = tt

sound_runs : (b : EndRecord) (stage : StateData) → IsSound b stage → IsRunning stage
sound_runs b (Opened o) sound = (sound.3, sound.2.t1)
sound_runs b stage sound = tt

pub end_due : (b : EndRecord) (stage : StateData) (now : ℕ) → IsEnd b stage → TickDue (now_at now b) stage
end_due b stage now is = running_due (now_at now b) stage is.timers (sound_runs b stage is.sound)

-- an end that ticked is due later
pub ticked_later : (b : EndRecord) (stage : StateData) (now : ℕ) → IsEnd b stage → Later now (on_tick (now_at now b) stage)
ticked_later b stage now is = tick_after (now_at now b) stage is.timers (sound_prompt b stage now is.sound)

-- the same, of what a tick did
pub ticked_so : (b : EndRecord) (stage was after : StateData) (now : ℕ) (told new : Told) → IsEnd b stage → was ≡ stage → Does (on_tick (now_at now b) was) (now_at now b) after told new
    → IsBefore (due (now_at now b) after) now
ticked_so b stage was after now told new is same did =
    let m = on_tick (now_at now b) was in
    let end_is : record { base = now_at now b; stage = after } ≡ end_of m = λ i. record { base = did.base_is i; stage = did.stage_is i } in
    subst (λ (e : End). IsBefore (due e.base e.stage) now) (sym end_is)
    (ticked_later b was now (subst (λ (x : StateData). IsEnd b x) (sym same) is))
