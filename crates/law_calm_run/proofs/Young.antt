-- An end that is still to be answered (CrWait, UserWait) after a row was so before it, was given nothing and showed nothing: no row leads there from
-- another state. A called end leaves UserWait by an accept, or for good.
use Rattle.std.proofs.Common.{◌≡◌, ℕ, ◌+◌, ◌&&◌, ◌==◌, not, nat_lt, nat_le, List, [], None, refl, sym, ◌∙◌, subst}
use Rattle.tpdu.specs.declared.tpdu.Tpdu.{Tpdu}
use Rattle.tpdu.specs.declared.tpdu.Tpdu.TheVariants as wires
use Rattle.tp4_number.specs.Number.{whole}
use Rattle.tp4_number.specs.declared.got.Got.{Got}
use Rattle.tp4_number.specs.declared.got.Got.TheVariants.{TooLarge}
use Rattle.tp4_number.proofs.Past.{if_kept}
use Rattle.tp4_flow.specs.ReceivingHalf.{Received, dt_arrival, half_granted}
use Rattle.tp4_flow.specs.declared.rules.Life.{Life}
use Rattle.tp4_flow.specs.declared.rules.Life.TheVariants.{Goes, Exhausted}
use Rattle.tpdu.specs.declared.service.Options.{Options}
use Rattle.tp4_sending.specs.SendingHalf.{at, life_of}
use Rattle.tp4_conn.specs.declared.end_record.EndRecord.{EndRecord}
use Rattle.tp4_conn.specs.declared.call.UserCall.{UserCall}
use Rattle.tp4_conn.specs.declared.call.UserCall.TheVariants as calls
use Rattle.tp4_conn.specs.declared.states.InAkWait.{InAkWait}
use Rattle.tp4_conn.specs.declared.states.InOpened.{InOpened}
use Rattle.tp4_conn.specs.declared.states.InWaitBeforeClose.{InWaitBeforeClose}
use Rattle.tp4_conn.specs.declared.states.InClosing.{InClosing}
use Rattle.tp4_conn.specs.declared.states.InCrWait.{InCrWait}
use Rattle.tp4_conn.specs.declared.states.StateData.{StateData}
use Rattle.tp4_conn.specs.declared.states.StateData.TheVariants as stages
use Rattle.tp4_conn.specs.Agreeing.{is_within}
use Rattle.tp4_conn.specs.AkWait.{ak_wait_tick, ak_wait_tpdu}
use Rattle.tp4_conn.specs.Calls.{call_refusal}
use Rattle.tp4_conn.specs.Closing.{closing_tick, closing_tpdu}
use Rattle.tp4_conn.specs.CrWait.{cr_wait_tick, cr_wait_tpdu}
use Rattle.tp4_conn.specs.End.{End, Moved, span}
use Rattle.tp4_conn.specs.Matching.{wants_sum}
use Rattle.tp4_conn.specs.Opened.{dt_as, hearing, is_expedited, opened_as, opened_tick, opened_tpdu, opened_window}
use Rattle.tp4_conn.specs.Table.{Called, Event, Ticked, Took, at as at_tick, on_call, on_tick, on_tpdu, stepped}
use Rattle.tp4_conn.specs.UserWait.{user_wait_accept, user_wait_refuse, user_wait_tick}
use Rattle.tp4_conn.specs.WaitBeforeClose.{wait_before_close_tick, wait_before_close_tpdu}
use Rattle.law_calm_run.proofs.Story.{IsYoung}
use Rattle.law_tp4_history.specs.Lines.{given, shown_in}
use Rattle.law_tp4_pair.specs.Standing.{HasLeft}
use Rattle.law_tp4_pair.proofs.Leaving.{stays_left}

-- ---- an end that is still to be answered

abbrev IsCalling : StateData → Type 0
IsCalling (stages.CrWait w) = Prim.Unit {0}
IsCalling stage = ⊥

-- what a row leads to, where it leads to such an end
abbrev Follows : StateData → Moved → Type 0
Follows (stages.CrWait w) m = IsYoung m.stage → IsCalling m.stage × (shown_in m.events ≡ [])
Follows (stages.UserWait since) m = IsYoung m.stage → (m.stage ≡ stages.UserWait since) × (shown_in m.events ≡ [])
Follows stage m = IsYoung m.stage → ⊥

abbrev IsOld : Moved → Type 0
IsOld m = IsYoung m.stage → ⊥

module _ (b : EndRecord) where
  dt_old : (got : Got) (o : InOpened) (r : Received) → IsOld (dt_as got b o r)
  dt_old TooLarge o r = λ h. h
  dt_old other o r = λ h. h

  opened_old : (o : InOpened) (tpdu : Tpdu) → IsOld (opened_tpdu whole b o tpdu)
  unfolding opened_tpdu
  opened_old o (wires.Dt destination last number text) = dt_old (dt_arrival o.halves.receiving number (record { last = last; octets = text })).got o _
  opened_old o (wires.Ed destination last number text) = if_kept IsOld (is_expedited b.agreed) _ _ (λ _ h. h) (λ _ h. h)
  opened_old o other = λ h. h

  ak_old : (w : InAkWait) (tpdu : Tpdu) → IsOld (ak_wait_tpdu whole b w tpdu)
  unfolding ak_wait_tpdu
  ak_old w (wires.Ak destination number credit subsequence confirmation) = opened_old _ (wires.Ak destination number credit subsequence confirmation)
  ak_old w (wires.Dt destination last number text) = opened_old _ (wires.Dt destination last number text)
  ak_old w (wires.Ed destination last number text) = opened_old _ (wires.Ed destination last number text)
  ak_old w (wires.Ea destination number) = opened_old _ (wires.Ea destination number)
  ak_old w other = λ h. h

  cr_follows : (w : InCrWait) (tpdu : Tpdu) → Follows (stages.CrWait w) (cr_wait_tpdu b w tpdu)
  unfolding cr_wait_tpdu
  cr_follows w (wires.Cc credit destination source width calling called size preferred extra version classes ack_time text) =
      if_kept (Follows (stages.CrWait w)) (is_within b.proposed width size preferred extra) _ _ (λ _ h. absurd h) (λ _ h. absurd h)
  cr_follows w (wires.Dr destination source reason info text) = λ h. absurd h
  cr_follows w other = λ h. (tt, refl)

  parting_old : (w : InWaitBeforeClose) (tpdu : Tpdu) → IsOld (wait_before_close_tpdu b w tpdu)
  unfolding wait_before_close_tpdu
  parting_old w (wires.Cc credit destination source width calling called size preferred extra version classes ack_time text) = λ h. h
  parting_old w other = λ h. h

  closing_old : (c : InClosing) (tpdu : Tpdu) → IsOld (closing_tpdu b c tpdu)
  unfolding closing_tpdu
  closing_old c (wires.Dc destination source) = λ h. h
  closing_old c other = λ h. h

  tpdu_follows : (stage : StateData) (tpdu : Tpdu) → Follows stage (on_tpdu whole b stage tpdu)
  tpdu_follows (stages.CrWait w) tpdu = cr_follows w tpdu
  tpdu_follows (stages.WaitBeforeClose w) tpdu = parting_old w tpdu
  tpdu_follows (stages.UserWait since) tpdu = λ h. (refl, refl)
  tpdu_follows (stages.AkWait w) tpdu = ak_old w tpdu
  tpdu_follows (stages.Opened o) tpdu = opened_old (hearing b o) tpdu
  tpdu_follows (stages.Closing c) tpdu = closing_old c tpdu
  tpdu_follows (stages.Frozen when) tpdu = λ h. h

  cr_tick_follows : (w : InCrWait) → Follows (stages.CrWait w) (cr_wait_tick b w)
  unfolding cr_wait_tick
  cr_tick_follows w =
      if_kept (Follows (stages.CrWait w)) (nat_lt b.clock (w.tries.last + b.timers.t1)) _ _ (λ _ h. (tt, refl))
      (λ _. if_kept (Follows (stages.CrWait w)) (nat_lt w.tries.count b.timers.sendings) _ _ (λ _ h. (tt, refl)) (λ _ h. absurd h))

  parting_tick_old : (w : InWaitBeforeClose) → IsOld (wait_before_close_tick b w)
  unfolding wait_before_close_tick
  parting_tick_old w =
      if_kept IsOld (nat_lt b.clock (w.request.tries.last + b.timers.t1)) _ _ (λ _ h. h) (λ _. if_kept IsOld (nat_lt w.request.tries.count b.timers.sendings) _ _ (λ _ h. h) (λ _ h. h))

  user_tick_follows : (since : ℕ) → Follows (stages.UserWait since) (user_wait_tick b since)
  unfolding user_wait_tick
  user_tick_follows since = if_kept (Follows (stages.UserWait since)) (nat_lt b.clock (since + b.timers.inactive)) _ _ (λ _ h. (refl, refl)) (λ _ h. absurd h)

  ak_tick_old : (w : InAkWait) → IsOld (ak_wait_tick b w)
  unfolding ak_wait_tick
  ak_tick_old w = if_kept IsOld (nat_lt b.clock (w.tries.last + b.timers.t1)) _ _ (λ _ h. h) (λ _. if_kept IsOld (nat_lt w.tries.count b.timers.sendings) _ _ (λ _ h. h) (λ _ h. h))

  opened_as_old : (life : Life) (o : InOpened) → IsOld (opened_as life b o)
  opened_as_old Exhausted o = λ h. h
  opened_as_old Goes o = if_kept IsOld (nat_le (o.acked + b.timers.window) b.clock) _ _ (λ _ h. h) (λ _ h. h)

  opened_tick_old : (o : InOpened) → IsOld (opened_tick b o)
  unfolding opened_tick
  opened_tick_old o = if_kept IsOld (nat_le (o.took + b.timers.inactive) b.clock) _ _ (λ _ h. h) (λ _. opened_as_old (life_of (at b.clock o.halves.sending)) o)

  closing_tick_old : (c : InClosing) → IsOld (closing_tick b c)
  unfolding closing_tick
  closing_tick_old c = if_kept IsOld (nat_le (c.from + span b.timers) b.clock) _ _ (λ _ h. h) (λ _. if_kept IsOld (nat_lt b.clock (c.last + b.timers.t1)) _ _ (λ _ h. h) (λ _ h. h))

  tick_follows : (stage : StateData) → Follows stage (on_tick b stage)
  tick_follows (stages.CrWait w) = cr_tick_follows w
  tick_follows (stages.WaitBeforeClose w) = parting_tick_old w
  tick_follows (stages.UserWait since) = user_tick_follows since
  tick_follows (stages.AkWait w) = ak_tick_old w
  tick_follows (stages.Opened o) = opened_tick_old o
  tick_follows (stages.Closing c) = closing_tick_old c
  tick_follows (stages.Frozen when) = λ h. h

  accept_old : (asked : Options) (octets : List ℕ) → IsOld (user_wait_accept b asked octets)
  unfolding user_wait_accept
  accept_old asked octets = λ h. h

  refuse_old : (octets : List ℕ) → IsOld (user_wait_refuse b octets)
  unfolding user_wait_refuse
  refuse_old octets = λ h. h

  refuse_left : (octets : List ℕ) → HasLeft (user_wait_refuse b octets).stage
  unfolding user_wait_refuse
  refuse_left octets = tt

  window_old : (o : InOpened) (credit : ℕ) → IsOld (opened_window b o credit)
  window_old o credit = if_kept IsOld ((half_granted o.halves.receiving credit).receiver.inbox.credit == o.halves.receiving.receiver.inbox.credit) _ _ (λ _ h. h) (λ _ h. h)

  call_follows : (stage : StateData) (call : UserCall) → Follows stage (on_call b stage call)
  call_follows (stages.CrWait w) (calls.Disconnect octets) = λ h. absurd h
  call_follows (stages.CrWait w) call = λ h. (tt, refl)
  call_follows (stages.UserWait since) (calls.Accept asked octets) = λ h. absurd (accept_old asked octets h)
  call_follows (stages.UserWait since) (calls.Refuse octets) = λ h. absurd (refuse_old octets h)
  call_follows (stages.UserWait since) call = λ h. (refl, refl)
  call_follows (stages.AkWait w) (calls.Normal unit) = λ h. h
  call_follows (stages.AkWait w) (calls.Urgent unit) = λ h. h
  call_follows (stages.AkWait w) (calls.Disconnect octets) = λ h. h
  call_follows (stages.Opened o) (calls.Normal unit) = λ h. h
  call_follows (stages.Opened o) (calls.Urgent unit) = λ h. h
  call_follows (stages.Opened o) (calls.Window credit) = window_old o credit
  call_follows (stages.Opened o) (calls.Disconnect octets) = λ h. h
  call_follows other call = λ h. h

untaken_follows : (stage : StateData) (m : Moved) → m.stage ≡ stage → shown_in m.events ≡ [] → Follows stage m
untaken_follows (stages.CrWait w) m same none = λ h. (subst IsCalling (sym same) tt, none)
untaken_follows (stages.UserWait since) m same none = λ h. (same, none)
untaken_follows other m same none = λ h. subst IsYoung same h

follows : (now : ℕ) (e : End) (event : Event) → Follows e.stage (stepped whole now e event)
follows now e (Called call) = call_follows (at_tick now e.base) e.stage call
follows now e (Took tpdu sum) =
    if_kept (Follows e.stage) (wants_sum e.base e.stage tpdu && not sum) _ _ (λ _. untaken_follows e.stage _ refl refl) (λ _. tpdu_follows (at_tick now e.base) e.stage tpdu)
follows now e Ticked = tick_follows (at_tick now e.base) e.stage

-- a call that is not refused
abbrev pub IsAllowed : End → Event → Type 0
IsAllowed e (Called call) = call_refusal e.base e.stage call ≡ None
IsAllowed e other = Prim.Unit {0}

young_before : (stage : StateData) (m : Moved) → Follows stage m → IsYoung m.stage → IsYoung stage × (shown_in m.events ≡ [])
young_before (stages.CrWait w) m f h = (tt, (f h).1)
young_before (stages.UserWait since) m f h = (tt, (f h).1)
young_before other m f h = absurd (f h)

-- such an end is given no unit
none_given : (b : EndRecord) (stage : StateData) (call : UserCall) → IsYoung stage → call_refusal b stage call ≡ None → given (Called call) ≡ []
none_given b (stages.CrWait w) (calls.Normal unit) young allowed = absurd cc
none_given b (stages.CrWait w) (calls.Urgent unit) young allowed = absurd cc
none_given b (stages.UserWait since) (calls.Normal unit) young allowed = absurd cc
none_given b (stages.UserWait since) (calls.Urgent unit) young allowed = absurd cc
none_given b (stages.WaitBeforeClose w) call young allowed = absurd young
none_given b (stages.AkWait w) call young allowed = absurd young
none_given b (stages.Opened o) call young allowed = absurd young
none_given b (stages.Closing c) call young allowed = absurd young
none_given b (stages.Frozen when) call young allowed = absurd young
none_given b stage (calls.Accept asked octets) young allowed = refl
none_given b stage (calls.Refuse octets) young allowed = refl
none_given b stage (calls.Window credit) young allowed = refl
none_given b stage (calls.Disconnect octets) young allowed = refl

gives_none : (e : End) (event : Event) → IsYoung e.stage → IsAllowed e event → given event ≡ []
gives_none e (Called call) young allowed = none_given e.base e.stage call young allowed
gives_none e other young allowed = refl

-- an end that is still to be answered after a row was so before it, was given nothing and showed nothing
pub row_young : (now : ℕ) (e : End) (event : Event) → IsYoung (stepped whole now e event).stage → IsAllowed e event
    → IsYoung e.stage × (given event ≡ []) × (shown_in (stepped whole now e event).events ≡ [])
row_young now e event young allowed =
    let before = young_before e.stage (stepped whole now e event) (follows now e event) young in
    (before.0, gives_none e event before.0 allowed, before.1)

-- an end that waits for the answer to its CR did so before
calls_before : (stage : StateData) (m : Moved) (now_waits : InCrWait) → Follows stage m → m.stage ≡ stages.CrWait now_waits → (w : InCrWait) × (stage ≡ stages.CrWait w)
calls_before (stages.CrWait w) m r f is = (w, refl)
calls_before (stages.UserWait since) m r f is = absurd (subst IsCalling (sym is ∙ (f (subst IsYoung (sym is) tt)).0) tt)
calls_before other m r f is = absurd (f (subst IsYoung (sym is) tt))

pub row_calls : (now : ℕ) (e : End) (event : Event) (r : InCrWait) → (stepped whole now e event).stage ≡ stages.CrWait r → (w : InCrWait) × (e.stage ≡ stages.CrWait w)
row_calls now e event r is = calls_before e.stage (stepped whole now e event) r (follows now e event) is

-- ---- a called end that was answered

abbrev IsAccept : Event → Type 0
IsAccept event = (asked : Options) × (octets : List ℕ) × (event ≡ Called (calls.Accept asked octets))

-- the row leaves it as it is, or it leaves for good
abbrev Unanswered : Moved → Type 0
Unanswered m = (IsYoung m.stage → ⊥) → (HasLeft m.stage → ⊥) → ⊥

user_tick_unanswered : (b : EndRecord) (since : ℕ) → Unanswered (user_wait_tick b since)
unfolding user_wait_tick
user_tick_unanswered b since = if_kept Unanswered (nat_lt b.clock (since + b.timers.inactive)) _ _ (λ _ young left. young tt) (λ _ young left. left tt)

answered_by : (now : ℕ) (b : EndRecord) (since : ℕ) (event : Event) → (IsYoung (stepped whole now (record { base = b; stage = stages.UserWait since }) event).stage → ⊥)
    → (HasLeft (stepped whole now (record { base = b; stage = stages.UserWait since }) event).stage → ⊥) → IsAccept event
answered_by now b since (Called (calls.Accept asked octets)) young left = (asked, octets, refl)
answered_by now b since (Called (calls.Refuse octets)) young left = absurd (left (refuse_left (at_tick now b) octets))
answered_by now b since (Called (calls.Normal unit)) young left = absurd (young tt)
answered_by now b since (Called (calls.Urgent unit)) young left = absurd (young tt)
answered_by now b since (Called (calls.Window credit)) young left = absurd (young tt)
answered_by now b since (Called (calls.Disconnect octets)) young left = absurd (young tt)
answered_by now b since (Took tpdu sum) young left =
    absurd (if_kept Unanswered (wants_sum b (stages.UserWait since) tpdu && not sum) _ _ (λ _ y l. y tt) (λ _ y l. y tt) young left)
answered_by now b since Ticked young left = absurd (user_tick_unanswered (at_tick now b) since young left)

pub row_answers : (now : ℕ) (e : End) (event : Event) (since : ℕ) → e.stage ≡ stages.UserWait since → (IsYoung (stepped whole now e event).stage → ⊥)
    → (HasLeft (stepped whole now e event).stage → ⊥) → (asked : Options) × (octets : List ℕ) × (event ≡ Called (calls.Accept asked octets))
row_answers now e event since is young left =
    let same : e ≡ record { base = e.base; stage = stages.UserWait since } = λ i. record { base = e.base; stage = is i } in
    answered_by now e.base since event
    (subst (λ (x : End). IsYoung (stepped whole now x event).stage → ⊥) same young)
    (subst (λ (x : End). HasLeft (stepped whole now x event).stage → ⊥) same left)

-- an end that has not left had not left before
pub row_from : (now : ℕ) (e : End) (event : Event) → (HasLeft (stepped whole now e event).stage → ⊥) → HasLeft e.stage → ⊥
row_from now e event stays left = stays (stays_left now e event left)
