-- The rows of CrWait and UserWait, and what an entity does with a CR.
use Rattle.std.specs.Prelude.{not}
use Rattle.std.specs.List.{list_any}
use Rattle.std.proofs.Common.{◌≡◌, ◌⊎◌, inl, inr, ℕ, ◌+◌, ◌<◌, ◌≤◌, nat_lt, ◌&&◌, Bool, true, false, List, [], ◌∷◌, ◌++◌, Option, Some, None, refl, sym, ap, subst, arith}
use Rattle.tp4_number.specs.Number.{whole}
use Rattle.tp4_number.proofs.Past.{if_kept}
use Rattle.tp4_flow.specs.declared.step.Sent.{Sent}
use Rattle.tp4_conn.specs.declared.call.ConnectCall.{ConnectCall}
use Rattle.tp4_conn.specs.declared.call.UserCall.{UserCall}
use Rattle.tp4_conn.specs.declared.call.UserCall.TheVariants.{Accept, Refuse, Disconnect}
use Rattle.tp4_conn.specs.declared.end_record.EndRecord.{EndRecord}
use Rattle.tp4_conn.specs.declared.states.InCrWait.{InCrWait}
use Rattle.tp4_conn.specs.declared.states.StateData.{StateData}
use Rattle.tp4_conn.specs.declared.states.StateData.TheVariants.{CrWait, UserWait}
use Rattle.tp4_conn.specs.Agreeing.{request}
use Rattle.tp4_conn.specs.CrWait.{cr_wait_tick, cr_wait_tpdu}
use Rattle.tp4_conn.specs.End.{IsSized, Moved}
use Rattle.tp4_conn.specs.Living.{IsInTime}
use Rattle.tp4_conn.specs.Making.{caller}
use Rattle.tp4_conn.specs.Matching.{wants_sum}
use Rattle.tp4_conn.specs.Table.{at as now_at, due, on_call, on_tick, takes}
use Rattle.tp4_conn.specs.UserWait.{user_wait_refuse, user_wait_tick}
use Rattle.tp4_entity.specs.Association.{calls, is_called, is_registered, met, new_end, refusal}
use Rattle.tp4_entity.specs.Entity.{Entity}
use Rattle.tp4_entity.specs.References.{least_free}
use Rattle.law_tp4_pair.specs.Pair.{Asks_called, Asks_calling, Clock, Comes_back, Comes_forth, Happening, Leads, May, Pair, clocked, comes_back, comes_forth, next, tick_of}
use Rattle.law_tp4_pair.specs.Standing.{HasLeft}
use Rattle.law_tp4_pair.proofs.Confirming.{indicates}
use Rattle.law_recovery_steps.specs.Steps.{IsParted}
use Rattle.law_recovery_steps.proofs.Pairs.{parted_after}
use Rattle.law_recovery_steps.specs.Requests.{IsAccept, IsAccepted, IsAnswered, IsRequested, Refused, Stands, Waits}
use Rattle.law_recovery_steps.specs.AkWait.{AreCrs}

-- ---- the rows

-- the calling end is in CrWait, and sent nothing but CRs; or it has left
record StaysAsking (m : Moved) : Type 0 where
  r : InCrWait
  stage : m.stage ≡ CrWait r
  tpdus : AreCrs m.tpdus

abbrev Asking : Moved → Type 0
Asking m = HasLeft m.stage ⊎ StaysAsking m

call_asks : (b : EndRecord) (r : InCrWait) (call : UserCall) → Asking (on_call b (CrWait r) call)
call_asks b r (Disconnect octets) = inl tt
call_asks b r other = inr (record { r = r; stage = refl; tpdus = tt })

tick_asks : (b : EndRecord) (r : InCrWait) → Asking (cr_wait_tick b r)
unfolding cr_wait_tick
tick_asks b r = if_kept Asking (nat_lt b.clock (r.tries.last + b.timers.t1)) _ _ (λ _. inr (record { r = r; stage = refl; tpdus = tt }))
    (λ _. if_kept Asking (nat_lt r.tries.count b.timers.sendings) _ _ (λ _. inr (record { r = _; stage = refl; tpdus = (tt, tt) })) (λ _. inl tt))

-- the called end is in UserWait, and sent nothing; or it has left
record StaysUserWait (m : Moved) : Type 0 where
  since : ℕ
  stage : m.stage ≡ UserWait since
  tpdus : m.tpdus ≡ []

abbrev Waiting : Moved → Type 0
Waiting m = HasLeft m.stage ⊎ StaysUserWait m

takes_waits : (now : ℕ) (b : EndRecord) (since : ℕ) (sent : Sent) → StaysUserWait (takes whole now b (UserWait since) sent.tpdu sent.sum)
takes_waits now b since sent = if_kept StaysUserWait (wants_sum b (UserWait since) sent.tpdu && not sent.sum) _ _
    (λ _. record { since = since; stage = refl; tpdus = refl }) (λ _. record { since = since; stage = refl; tpdus = refl })

call_waits : (b : EndRecord) (since : ℕ) (call : UserCall) → Waiting (on_call b (UserWait since) call) ⊎ IsAccept (Asks_called call)
unfolding user_wait_refuse
call_waits b since (Accept asked octets) = inr tt
call_waits b since (Refuse octets) = inl (inl tt)
call_waits b since other = inl (inr (record { since = since; stage = refl; tpdus = refl }))

tick_waits : (b : EndRecord) (since : ℕ) → Waiting (user_wait_tick b since)
unfolding user_wait_tick
tick_waits b since = if_kept Waiting (nat_lt b.clock (since + b.timers.inactive)) _ _ (λ _. inr (record { since = since; stage = refl; tpdus = refl })) (λ _. inl tt)

-- ---- a pair

crs_then : (a b : List Sent) → AreCrs a → AreCrs b → AreCrs (a ++ b)
crs_then [] b x y = y
crs_then (sent ∷ a) b x y = (x.0, crs_then a b x.1 y)

pub requests_stay : (p : Pair) (happening : Happening) → IsRequested p → May p happening → IsParted (next p happening) ⊎ (IsRequested (next p happening) ⊎ IsAccept happening)
requests_stay p Comes_forth x may = by p.forth x.forth refl
  where
    by : (l : List Sent) → AreCrs l → p.forth ≡ l → IsParted (comes_forth p l) ⊎ (IsRequested (comes_forth p l) ⊎ ⊥)
    by [] crs e = inr (inl x)
    by (sent ∷ rest) crs e =
        let m : Moved = takes whole p.clock p.called.base p.called.stage sent.tpdu sent.sum in
        let s : StaysUserWait m = subst (λ (stage : StateData). StaysUserWait (takes whole p.clock p.called.base stage sent.tpdu sent.sum)) (sym x.called) (takes_waits p.clock p.called.base x.since sent) in
        inr (inl (record {
          request = x.request;
          since = s.since;
          calling = x.calling;
          called = s.stage;
          forth = crs.1;
          back = (λ i. x.back i ++ s.tpdus i);
        }))
requests_stay p Comes_back x may = subst (λ (l : List Sent). IsParted (comes_back p l) ⊎ (IsRequested (comes_back p l) ⊎ ⊥)) (sym x.back) (inr (inl x))
requests_stay p (Asks_calling call) x may =
    let m : Moved = on_call (now_at p.clock p.calling.base) p.calling.stage call in
    let s : Asking m = subst (λ (stage : StateData). Asking (on_call (now_at p.clock p.calling.base) stage call)) (sym x.calling) (call_asks (now_at p.clock p.calling.base) x.request call) in
    elim s [
      | inl left ↦ inl (inl left)
      | inr a ↦ inr (inl (record { request = a.r; since = x.since; calling = a.stage; called = x.called; forth = crs_then p.forth m.tpdus x.forth a.tpdus; back = x.back }))
    ]
requests_stay p (Asks_called call) x may =
    let m : Moved = on_call (now_at p.clock p.called.base) p.called.stage call in
    let s : Waiting m ⊎ IsAccept (Asks_called call) =
    subst (λ (stage : StateData). Waiting (on_call (now_at p.clock p.called.base) stage call) ⊎ IsAccept (Asks_called call)) (sym x.called) (call_waits (now_at p.clock p.called.base) x.since call) in
    elim s [
      | inl w ↦ elim w [
        | inl left ↦ inl (inr left)
        | inr a ↦ inr (inl (record { request = x.request; since = a.since; calling = x.calling; called = a.stage; forth = x.forth; back = (λ i. x.back i ++ a.tpdus i) }))
      ]
      | inr accept ↦ inr (inr accept)
    ]
requests_stay p (Clock calling called) x may = by (ticked_asks calling) (ticked_waits called)
  where
    m : Moved
    m = tick_of calling (p.clock + 1) p.calling

    n : Moved
    n = tick_of called (p.clock + 1) p.called

    ticked_asks : (ticks : Bool) → Asking (tick_of ticks (p.clock + 1) p.calling)
    ticked_asks false = inr (record { r = x.request; stage = x.calling; tpdus = tt })
    ticked_asks true = subst (λ (stage : StateData). Asking (on_tick (now_at (p.clock + 1) p.calling.base) stage)) (sym x.calling) (tick_asks (now_at (p.clock + 1) p.calling.base) x.request)

    ticked_waits : (ticks : Bool) → Waiting (tick_of ticks (p.clock + 1) p.called)
    ticked_waits false = inr (record { since = x.since; stage = x.called; tpdus = refl })
    ticked_waits true = subst (λ (stage : StateData). Waiting (on_tick (now_at (p.clock + 1) p.called.base) stage)) (sym x.called) (tick_waits (now_at (p.clock + 1) p.called.base) x.since)

    by : Asking m → Waiting n → IsParted (clocked p m n) ⊎ (IsRequested (clocked p m n) ⊎ ⊥)
    by (inl left) w = inl (inl left)
    by (inr a) (inl left) = inl (inr left)
    by (inr a) (inr w) = inr (inl (record { request = a.r; since = w.since; calling = a.stage; called = w.stage; forth = crs_then p.forth m.tpdus x.forth a.tpdus; back = (λ i. x.back i ++ w.tpdus i) }))

-- however much happens
later_accept : (p : Pair) (happening : Happening) (happenings : List Happening) (last : Pair) → May p happening → IsAccepted (next p happening) happenings last → IsAccepted p (happening ∷ happenings) last
later_accept p happening happenings last may a = record {
  before = happening ∷ a.before;
  accept = a.accept;
  after = a.after;
  happenings_are = ap (λ (l : List Happening). happening ∷ l) a.happenings_are;
  is = a.is;
  mid = a.mid;
  early = (may, a.early);
  waits = a.waits;
  late = a.late;
}

pub requests_last : (p : Pair) (happenings : List Happening) (last : Pair) → IsRequested p → Leads p happenings last → IsParted last ⊎ (IsRequested last ⊎ IsAccepted p happenings last)
requests_last p [] last x l = inr (inl (subst IsRequested (sym l) x))
requests_last p (happening ∷ happenings) last x l = elim (requests_stay p happening x l.0) [
  | inl left ↦ inl (parted_after (next p happening) last happenings left l.1)
  | inr y ↦ elim y [
    | inl stays ↦ elim (requests_last (next p happening) happenings last stays l.1) [
      | inl left ↦ inl left
      | inr z ↦ inr (elim z [ inl waits ↦ inl waits | inr a ↦ inr (later_accept p happening happenings last l.0 a) ])
    ]
    | inr accept ↦ inr (inr (record { before = []; accept = happening; after = happenings; happenings_are = refl; is = accept; mid = p; early = refl; waits = x; late = l.1 }))
  ]
]

-- ---- a CR

-- an end in CrWait that is not due sent its CR less than T1 ticks ago
pub requests_again : (t0 now : ℕ) (b : EndRecord) (r : InCrWait) → IsInTime (due b (CrWait r)) (now + 1) → t0 + b.timers.t1 ≤ now → t0 < r.tries.last
requests_again t0 now b r in_time late = omega (arith, in_time, late)

pub requests_met : (made now : ℕ) (e : Entity) (from : List ℕ) (call : ConnectCall) (sum : Bool) → IsSized call.request.options
    → IsAnswered now e from call (met whole now e from ((request (caller made call) call.request.octets).tpdu, sum))
requests_met made now e from call sum sized =
    if_kept (IsAnswered now e from call) (list_any (is_called false from call.own) e.ends) _ _ (λ there. Stands there refl)
    (λ _. if_kept (IsAnswered now e from call) (list_any (is_called true from call.own) e.ends) _ _ (λ frozen. Refused 131 (inl (refl, frozen)) refl)
    (λ _. if_kept (IsAnswered now e from call) (not (is_registered e.selectors call.request.to_selector)) _ _ (λ none. Refused 3 (inr (inl (refl, unregistered (is_registered e.selectors call.request.to_selector) none))) refl) (λ _. by (least_free now e) refl)))
  where
    unregistered : (b : Bool) → not b ≡ true → b ≡ false
    unregistered false is = refl
    unregistered true is = absurd (cc is)

    by : (free : Option ℕ) → least_free now e ≡ free → IsAnswered now e from call (new_end now e from call.own (request (caller made call) call.request.octets).tpdu free)
    by None none = Refused 129 (inr (inr (refl, none))) refl
    by (Some reference) is = Waits reference (ap (λ (m : Option Moved). calls e reference m) (indicates made now reference from e.timers call sized))

-- a DR ends the calling end
pub refusals_end : (now : ℕ) (b : EndRecord) (r : InCrWait) (from : List ℕ) (reference reason : ℕ) → HasLeft (takes whole now b (CrWait r) (refusal from reference reason).tpdu (refusal from reference reason).sum).stage
unfolding cr_wait_tpdu
refusals_end now b r from reference reason = tt
