-- Free references, and the ends that a step leaves. An end is taken out where its tick leaves it without a due tick, and only a frozen end whose time is over is left so.
use Rattle.std.proofs.Common.{◌≡◌, ◌≢◌, ◌==◌, ◌&&◌, not, nat_lt, nat_le, ◌⊎◌, inl, inr, ℕ, zero, suc, ◌+◌, ◌-◌, ◌<◌, ◌≤◌, Bool, true, false, cond, List, [], ◌∷◌, length, slice_get, slice_set, option_map, Option, Some, None, refl, sym, ap, subst, ◌∙◌, arith}
use Rattle.std.specs.List.{list_any, position}
use Rattle.std.proofs.Math.Dec.{eqb-suc-zero}
use Rattle.std.proofs.lemmas.Bool.{eqb-false, eqb-true, le-leb, leb-true, lt-ltb, ltb-true}
use Rattle.std.proofs.lemmas.List.Quantifiers.{position-Some}
use Rattle.std.proofs.lemmas.Option.{slice_get_within, slice_get-get_or}
use Rattle.tpdu.specs.Values.{TpduAndSum}
use Rattle.tpdu.specs.declared.tpdu.Tpdu.{Tpdu}
use Rattle.tpdu.specs.declared.tpdu.Tpdu.TheVariants.{Cr, Cc, Dr, Dc, Dt, Ed, Ak, Ea, Er}
use Rattle.tp4_flow.specs.declared.rules.Life.{Life}
use Rattle.tp4_flow.specs.declared.rules.Life.TheVariants.{Goes as GoesOn, Exhausted}
use Rattle.tpdu.specs.declared.service.GoneCause.TheVariants.{Exhausted as Spent, AnswerTime}
use Rattle.tp4_flow.specs.declared.step.EndEvent.{EndEvent}
use Rattle.tp4_flow.specs.declared.step.Sent.{Sent}
use Rattle.tp4_sending.specs.SendingHalf.{at as sender_at, due_of, life_of}
use Rattle.tp4_sending.specs.Pieces.{sooner}
use Rattle.tp4_conn.specs.declared.end_record.EndRecord.{EndRecord}
use Rattle.tp4_conn.specs.declared.call.ConnectRequest.{ConnectRequest}
use Rattle.tp4_conn.specs.declared.call.UserCall.{UserCall}
use Rattle.tp4_conn.specs.declared.states.InAkWait.{InAkWait}
use Rattle.tp4_conn.specs.declared.states.InOpened.{InOpened}
use Rattle.tp4_conn.specs.declared.states.InWaitBeforeClose.{InWaitBeforeClose}
use Rattle.tp4_conn.specs.declared.states.InClosing.{InClosing}
use Rattle.tp4_conn.specs.declared.states.InCrWait.{InCrWait}
use Rattle.tp4_conn.specs.declared.states.StateData.{StateData}
use Rattle.tp4_conn.specs.declared.states.StateData.TheVariants.{CrWait, WaitBeforeClose, UserWait, AkWait, Opened, Closing, Frozen}
use Rattle.tp4_conn.specs.AkWait.{ak_wait_tick}
use Rattle.tp4_conn.specs.Closing.{closing_tick}
use Rattle.tp4_conn.specs.CrWait.{cr_wait_tick}
use Rattle.tp4_conn.specs.End.{End, Moved, end_of, frozen, frozen_for, gone as gone_with, span}
use Rattle.tp4_conn.specs.Making.{connected, on_cr}
use Rattle.tp4_conn.specs.Matching.{is_match}
use Rattle.tp4_conn.specs.Opened.{opened_as, opened_tick}
use Rattle.tp4_conn.specs.Table.{Called, Event, Ticked, Took, due, on_tick, stepped, at as base_at}
use Rattle.tp4_conn.specs.UserWait.{refusing, user_wait_tick}
use Rattle.tp4_conn.specs.WaitBeforeClose.{wait_before_close_tick}
use Rattle.tp4_entity.specs.Association.{answers, calls, is_called, is_registered, met, met_by, new_end, refusal, requested, unmatched}
use Rattle.tp4_entity.specs.Entity.{Acted, Entity, at, end_at, moved, there, with_end}
use Rattle.tp4_entity.specs.References.{is_free, is_free_place, least_free, was_frozen}
use Rattle.tp4_entity.specs.Silence.{is_silent}
use Rattle.tp4_entity.specs.Standing.{Empty, Goes, IsFreeAt, KeepsEnds, Moves, Over, Stays}
use Rattle.tp4_entity.specs.Step.{call_of, calling, calling_end, connecting, first_due, kept_end, ticked_to, ticking, ticking_at, ticking_end}
use Rattle.tp4_entity.proofs.PlaceLaws.{Place, end_at_of}

-- ---- places that are free

over_by : (now : ℕ) (end : End) (stage : StateData) → end.stage ≡ stage → was_frozen now (frozen_for end.base.timers) stage ≡ true → IsFreeAt now (Some end)
over_by now end (Frozen when) is h = Over end when refl is (ltb-true (when + frozen_for end.base.timers) now h)
over_by now end other is h = absurd cc

pub free_at : (now : ℕ) (place : Place) → is_free_place now place ≡ true → IsFreeAt now place
free_at now None h = Empty refl
free_at now (Some end) h = over_by now end end.stage refl h

at_free : (now : ℕ) (place : Place) → IsFreeAt now place → is_free_place now place ≡ true
at_free now place (Empty is) = ap (is_free_place now) is
at_free now place (Over end when is stage low) =
    ap (is_free_place now) is ∙ ap (was_frozen now (frozen_for end.base.timers)) stage ∙ lt-ltb (when + frozen_for end.base.timers) now low

both : (a b : Bool) → (a && b) ≡ true → (a ≡ true) × (b ≡ true)
both true b h = (refl, h)
both false b h = absurd cc

heard : (b c : Bool) → (not b && c) ≡ true → (b ≡ false) × (c ≡ true)
heard false c h = (refl, h)
heard true c h = absurd cc

pub free_is : (now reference : ℕ) (e : Entity) → is_free now e reference ≡ true → (is_silent now e ≡ false) × (1 ≤ reference) × (reference ≤ length e.ends) × IsFreeAt now (end_at e reference)
free_is now zero e h = absurd (let quiet = heard (is_silent now e) _ h in cc quiet.1)
free_is now (suc k) e h =
    let quiet = heard (is_silent now e) _ h in
    let one = both (not (suc k == 0)) (nat_le (suc k) (length e.ends) && is_free_place now (end_at e (suc k))) quiet.1 in
    let two = both (nat_le (suc k) (length e.ends)) (is_free_place now (end_at e (suc k))) one.1 in
    (quiet.0, omega arith, leb-true (suc k) (length e.ends) two.0, free_at now (end_at e (suc k)) two.1)

is_free_from : (now reference : ℕ) (e : Entity) → is_silent now e ≡ false → 1 ≤ reference → reference ≤ length e.ends → is_free_place now (end_at e reference) ≡ true → is_free now e reference ≡ true
is_free_from now zero e quiet least most h = absurd (omega arith)
is_free_from now (suc k) e quiet least most h =
    ap (λ (b : Bool). not b && (not (suc k == 0) && (nat_le (suc k) (length e.ends) && is_free_place now (end_at e (suc k))))) quiet
    ∙ ap (λ (b : Bool). not b && (nat_le (suc k) (length e.ends) && is_free_place now (end_at e (suc k)))) (eqb-suc-zero k)
    ∙ ap (λ (b : Bool). b && is_free_place now (end_at e (suc k))) (le-leb (suc k) (length e.ends) most) ∙ h

pub is_free_at : (now reference : ℕ) (e : Entity) → is_silent now e ≡ false → 1 ≤ reference → reference ≤ length e.ends → IsFreeAt now (end_at e reference) → is_free now e reference ≡ true
is_free_at now reference e quiet least most h = is_free_from now reference e quiet least most (at_free now (end_at e reference) h)

-- the least free reference
pub record Free (now reference : ℕ) (e : Entity) : Type 0 where
  pub least : 1 ≤ reference
  pub most : reference ≤ length e.ends
  pub free : is_free_place now (end_at e reference) ≡ true

free_by : (now reference : ℕ) (e : Entity) (found : Option ℕ) → position (is_free_place now) e.ends ≡ found → option_map (λ place. place + 1) found ≡ Some reference → Free now reference e
free_by now reference e None is h = absurd cc
free_by now reference e (Some place) is h =
    let same : place + 1 ≡ reference = cc h in
    let first = position-Some (is_free_place now) e.ends place None is in
    let get = slice_get-get_or e.ends place None first.0 in
    record {
      least = omega arith;
      most = omega (arith, first.0);
      free = ap (is_free_place now) (end_at_of e reference place (sym same) ∙ ap there get) ∙ first.1;
    }

pub free_least : (now reference : ℕ) (e : Entity) → least_free now e ≡ Some reference → Free now reference e
free_least now reference e h = free_by now reference e (position (is_free_place now) e.ends) refl h

pub least_is_free : (now reference : ℕ) (e : Entity) → is_silent now e ≡ false → least_free now e ≡ Some reference → is_free now e reference ≡ true
least_is_free now reference e quiet h = let f = free_least now reference e h in is_free_from now reference e quiet f.least f.most f.free

-- ---- one place changes

get_same : (places : List Place) (k : ℕ) (place : Place) → k < length places → slice_get (slice_set places k place) k ≡ Some place
get_same [] k place low = absurd (omega arith)
get_same (one ∷ places) zero place low = refl
get_same (one ∷ places) (suc k) place low = get_same places k place (omega arith)

get_other : (places : List Place) (k j : ℕ) (place : Place) → j ≢ k → slice_get (slice_set places k place) j ≡ slice_get places j
get_other (one ∷ places) zero zero place apart = absurd (apart refl)
get_other (one ∷ places) (suc k) (suc j) place apart = get_other places k j place (λ same. apart (ap suc same))
get_other places k j place apart = refl

-- a place that is changed, and another one
pub at_same : (e : Entity) (reference : ℕ) (place : Place) → 1 ≤ reference → reference ≤ length e.ends → end_at (with_end e reference place) reference ≡ place
at_same e zero place least most = absurd (omega arith)
at_same e (suc k) place least most =
    let back : suc k - 1 ≡ k = omega arith in
    end_at_of (with_end e (suc k) place) (suc k) k (omega arith) ∙ ap (λ (n : ℕ). there (slice_get (slice_set e.ends n place) k)) back ∙ ap there (get_same e.ends k place (omega arith))

pub at_other : (e : Entity) (reference other : ℕ) (place : Place) → 1 ≤ reference → other ≢ reference → end_at (with_end e reference place) other ≡ end_at e other
at_other e zero other place least apart = absurd (omega arith)
at_other e (suc k) zero place least apart = refl
at_other e (suc k) (suc j) place least apart =
    let back : suc k - 1 ≡ k = omega arith in
    end_at_of (with_end e (suc k) place) (suc j) j (omega arith) ∙ ap (λ (n : ℕ). there (slice_get (slice_set e.ends n place) j)) back
    ∙ ap there (get_other e.ends k j place (λ same. apart (ap suc same))) ∙ sym (end_at_of e (suc j) j (omega arith))

-- an end stands within
pub record Within (e : Entity) (reference : ℕ) : Type 0 where
  pub least : 1 ≤ reference
  pub most : reference ≤ length e.ends

in_range : (places : List Place) (k : ℕ) (end : End) (found : Option Place) → slice_get places k ≡ found → there found ≡ Some end → k < length places
in_range places k end None is h = absurd cc
in_range places k end (Some place) is h = slice_get_within places k place is

pub within : (e : Entity) (reference : ℕ) (end : End) → end_at e reference ≡ Some end → Within e reference
within e zero end h = absurd cc
within e (suc k) end h =
    let low = in_range e.ends k end (slice_get e.ends k) refl (sym (end_at_of e (suc k) k (omega arith)) ∙ h) in record { least = omega arith; most = omega (arith, low) }

same_end : (one end : End) → Some one ≡ Some end → one ≡ end
same_end one end h = cc h

pub set_keeps : (wrap : ℕ → ℕ → ℕ) (now : ℕ) (e : Entity) (reference : ℕ) (place : Place) → Within e reference → ((end : End) → end_at e reference ≡ Some end → Goes wrap now end place ⊎ IsFreeAt now (Some end))
    → KeepsEnds wrap now e (with_end e reference place)
set_keeps wrap now e reference place inside fits other end is = by_place (other == reference) refl
  where
    by_place : (b : Bool) → (other == reference) ≡ b → Goes wrap now end (end_at (with_end e reference place) other) ⊎ IsFreeAt now (Some end)
    by_place true same =
        let eq = eqb-true other reference same in
        let there_is : end_at (with_end e reference place) other ≡ place = ap (end_at (with_end e reference place)) eq ∙ at_same e reference place inside.least inside.most in
        subst (λ (p : Place). Goes wrap now end p ⊎ IsFreeAt now (Some end)) (sym there_is) (fits end (ap (end_at e) (sym eq) ∙ is))
    by_place false apart = inl (Stays (at_other e reference other place inside.least (eqb-false other reference apart) ∙ is))

pub moved_keeps : (wrap : ℕ → ℕ → ℕ) (now : ℕ) (e : Entity) (reference : ℕ) (end : End) (event : Event) → end_at e reference ≡ Some end
    → KeepsEnds wrap now e (moved e reference (stepped wrap now end event)).entity
moved_keeps wrap now e reference end event h =
    set_keeps wrap now e reference (Some (end_of (stepped wrap now end event))) (within e reference end h)
    (λ one is. inl (Moves event (ap (λ (x : End). Some (end_of (stepped wrap now x event))) (same_end end one (sym h ∙ is)))))

pub new_keeps : (wrap : ℕ → ℕ → ℕ) (now : ℕ) (e : Entity) (reference : ℕ) (m : Moved) → Free now reference e → KeepsEnds wrap now e (moved e reference m).entity
new_keeps wrap now e reference m f =
    set_keeps wrap now e reference (Some (end_of m)) (record { least = f.least; most = f.most }) (λ one is. inr (free_at now (Some one) (ap (is_free_place now) (sym is) ∙ f.free)))

pub all_stay : (wrap : ℕ → ℕ → ℕ) (now : ℕ) (e : Entity) → KeepsEnds wrap now e e
all_stay wrap now e reference end is = inl (Stays is)

-- ---- the steps

pub connecting_keeps : (wrap : ℕ → ℕ → ℕ) (now reference : ℕ) (e : Entity) (request : ConnectRequest) → least_free now e ≡ Some reference → KeepsEnds wrap now e (connecting now e reference request).entity
connecting_keeps wrap now reference e request h =
    let f = free_least now reference e h in
    new_keeps wrap now (at now e) reference (connected now (call_of e reference request)) (record { least = f.least; most = f.most; free = f.free })

called_keeps : (wrap : ℕ → ℕ → ℕ) (now : ℕ) (e : Entity) (reference : ℕ) (call : UserCall) (place : Place) → end_at e reference ≡ place → KeepsEnds wrap now e (calling_end wrap now e reference call place).entity
called_keeps wrap now e reference call None is = all_stay wrap now e
called_keeps wrap now e reference call (Some end) is = moved_keeps wrap now e reference end (Called call) is

pub calling_keeps : (wrap : ℕ → ℕ → ℕ) (now reference : ℕ) (e : Entity) (call : UserCall) → KeepsEnds wrap now e (calling wrap now e reference call).entity
calling_keeps wrap now reference e call = called_keeps wrap now (at now e) reference call (end_at e reference) refl

if_keeps : (b : Bool) (wrap : ℕ → ℕ → ℕ) (now : ℕ) (e : Entity) (one other : Acted) → KeepsEnds wrap now e one.entity → KeepsEnds wrap now e other.entity → KeepsEnds wrap now e (cond b one other).entity
if_keeps true wrap now e one other h k = h
if_keeps false wrap now e one other h k = k

by_keeps : (wrap : ℕ → ℕ → ℕ) (now : ℕ) (e : Entity) (from : List ℕ) (tpdu : TpduAndSum) (reference : ℕ) (place : Place) → end_at e reference ≡ place
    → KeepsEnds wrap now e (met_by wrap now e from tpdu reference place).entity
by_keeps wrap now e from tpdu reference None is = all_stay wrap now e
by_keeps wrap now e from tpdu reference (Some end) is =
    if_keeps (is_match end.base end.stage from tpdu.0) wrap now e (moved e reference (stepped wrap now end (Took tpdu.0 tpdu.1))) (unmatched e from tpdu.0)
    (moved_keeps wrap now e reference end (Took tpdu.0 tpdu.1) is) (all_stay wrap now e)

calls_keeps : (wrap : ℕ → ℕ → ℕ) (now : ℕ) (e : Entity) (reference : ℕ) (made : Option Moved) → Free now reference e → KeepsEnds wrap now e (calls e reference made).entity
calls_keeps wrap now e reference None f = all_stay wrap now e
calls_keeps wrap now e reference (Some m) f = new_keeps wrap now e reference m f

end_keeps : (wrap : ℕ → ℕ → ℕ) (now : ℕ) (e : Entity) (from : List ℕ) (source : ℕ) (cr : Tpdu) (found : Option ℕ) → least_free now e ≡ found → KeepsEnds wrap now e (new_end now e from source cr found).entity
end_keeps wrap now e from source cr None is = all_stay wrap now e
end_keeps wrap now e from source cr (Some reference) is = calls_keeps wrap now e reference (on_cr now reference from e.timers cr) (free_least now reference e is)

requested_keeps : (wrap : ℕ → ℕ → ℕ) (now : ℕ) (e : Entity) (from : List ℕ) (source : ℕ) (called : List ℕ) (cr : Tpdu) → KeepsEnds wrap now e (requested now e from source called cr).entity
requested_keeps wrap now e from source called cr =
    let three = cond (not (is_registered e.selectors called)) (answers e (refusal from source 3 ∷ [])) (new_end now e from source cr (least_free now e)) in
    let two = cond (list_any (is_called true from source) e.ends) (answers e (refusal from source 131 ∷ [])) three in
    if_keeps (list_any (is_called false from source) e.ends) wrap now e (answers e []) two (all_stay wrap now e)
    (if_keeps (list_any (is_called true from source) e.ends) wrap now e (answers e (refusal from source 131 ∷ [])) three (all_stay wrap now e)
    (if_keeps (not (is_registered e.selectors called)) wrap now e (answers e (refusal from source 3 ∷ [])) (new_end now e from source cr (least_free now e)) (all_stay wrap now e)
    (end_keeps wrap now e from source cr (least_free now e) refl)))

pub met_keeps : (wrap : ℕ → ℕ → ℕ) (now : ℕ) (e : Entity) (from : List ℕ) (tpdu : TpduAndSum) → KeepsEnds wrap now e (met wrap now e from tpdu).entity
met_keeps wrap now e from (Cr credit source width calling called size preferred extra version classes ack_time text, sum) =
    requested_keeps wrap now e from source called (Cr credit source width calling called size preferred extra version classes ack_time text)
met_keeps wrap now e from (Cc credit destination source width calling called size preferred extra version classes ack_time text, sum) =
    by_keeps wrap now e from (Cc credit destination source width calling called size preferred extra version classes ack_time text, sum) destination (end_at e destination) refl
met_keeps wrap now e from (Dr destination source reason info text, sum) = by_keeps wrap now e from (Dr destination source reason info text, sum) destination (end_at e destination) refl
met_keeps wrap now e from (Dc destination source, sum) = by_keeps wrap now e from (Dc destination source, sum) destination (end_at e destination) refl
met_keeps wrap now e from (Dt destination last number text, sum) = by_keeps wrap now e from (Dt destination last number text, sum) destination (end_at e destination) refl
met_keeps wrap now e from (Ed destination last number text, sum) = by_keeps wrap now e from (Ed destination last number text, sum) destination (end_at e destination) refl
met_keeps wrap now e from (Ak destination number credit subsequence confirmation, sum) =
    by_keeps wrap now e from (Ak destination number credit subsequence confirmation, sum) destination (end_at e destination) refl
met_keeps wrap now e from (Ea destination number, sum) = by_keeps wrap now e from (Ea destination number, sum) destination (end_at e destination) refl
met_keeps wrap now e from (Er destination cause rejected, sum) = by_keeps wrap now e from (Er destination cause rejected, sum) destination (end_at e destination) refl

-- ---- a tick: an end that freezes in it is due later

record Late (m : Moved) : Type 0 where
  late : (when : ℕ) → m.stage ≡ Frozen when → when ≡ m.base.clock

late_if : (b : Bool) (one other : Moved) → Late one → Late other → Late (cond b one other)
late_if true one other h k = h
late_if false one other h k = k

late_frozen : (b : EndRecord) (events : List EndEvent) (tpdus : List Sent) → Late (frozen b events tpdus)
late_frozen b events tpdus = record { late = λ when is. frozen_is b.clock when is }
  where
    frozen_is : (clock when : ℕ) → Frozen clock ≡ Frozen when → when ≡ clock
    frozen_is clock when is = let same : clock ≡ when = cc is in sym same

abbrev IsOther : StateData → Type 0
IsOther (Frozen when) = ⊥
IsOther stage = Unit {0}

other_late : (m : Moved) → IsOther m.stage → Late m
other_late m other = record { late = λ when is. absurd (subst IsOther is other) }

cr_late : (b : EndRecord) (w : InCrWait) → Late (cr_wait_tick b w)
unfolding cr_wait_tick
cr_late b w =
    late_if (nat_lt b.clock (w.tries.last + b.timers.t1)) _ _ (other_late _ tt)
    (late_if (nat_lt w.tries.count b.timers.sendings) _ _ (other_late _ tt) (late_frozen b (gone_with b Spent []) []))

wait_late : (b : EndRecord) (w : InWaitBeforeClose) → Late (wait_before_close_tick b w)
unfolding wait_before_close_tick
wait_late b w =
    late_if (nat_lt b.clock (w.request.tries.last + b.timers.t1)) _ _ (other_late _ tt)
    (late_if (nat_lt w.request.tries.count b.timers.sendings) _ _ (other_late _ tt) (late_frozen b [] []))

user_late : (b : EndRecord) (since : ℕ) → Late (user_wait_tick b since)
unfolding user_wait_tick
user_late b since = late_if (nat_lt b.clock (since + b.timers.inactive)) _ _ (other_late _ tt) (late_frozen b (gone_with b AnswerTime []) (refusing b [] ∷ []))

ak_late : (b : EndRecord) (w : InAkWait) → Late (ak_wait_tick b w)
unfolding ak_wait_tick
ak_late b w =
    late_if (nat_lt b.clock (w.tries.last + b.timers.t1)) _ _ (other_late _ tt)
    (late_if (nat_lt w.tries.count b.timers.sendings) _ _ (other_late _ tt) (late_frozen b (gone_with b Spent []) []))

as_late : (life : Life) (b : EndRecord) (o : InOpened) → Late (opened_as life b o)
as_late Exhausted b o = other_late _ tt
as_late GoesOn b o = late_if (nat_le (o.acked + b.timers.window) b.clock) _ _ (other_late _ tt) (other_late _ tt)

opened_late : (b : EndRecord) (o : InOpened) → Late (opened_tick b o)
unfolding opened_tick
opened_late b o = late_if (nat_le (o.took + b.timers.inactive) b.clock) _ _ (other_late _ tt) (as_late (life_of (sender_at b.clock o.halves.sending)) b o)

closing_late : (b : EndRecord) (c : InClosing) → Late (closing_tick b c)
unfolding closing_tick
closing_late b c =
    late_if (nat_le (c.from + span b.timers) b.clock) _ _ (late_frozen b [] []) (late_if (nat_lt b.clock (c.last + b.timers.t1)) _ _ (other_late _ tt) (other_late _ tt))

-- an end without a due tick
pub record Gone (b : EndRecord) (stage : StateData) : Type 0 where
  pub when : ℕ
  pub is : stage ≡ Frozen when
  pub past : when + frozen_for b.timers < b.clock

pub sooner_some : (one : ℕ) (other : Option ℕ) → sooner (Some one) other ≡ None → ⊥
sooner_some one None h = cc h
sooner_some one (Some two) h = cc h

gone : (b : EndRecord) (stage : StateData) → due b stage ≡ None → Gone b stage
gone b (Opened o) h = absurd (sooner_some _ (due_of o.halves.sending) h)
gone b (Frozen when) h = by_test (nat_lt (when + frozen_for b.timers) b.clock) refl h
  where
    by_test : (test : Bool) → nat_lt (when + frozen_for b.timers) b.clock ≡ test → cond test None (Some (when + frozen_for b.timers + 1)) ≡ None → Gone b (Frozen when)
    by_test true is h = record { when = when; is = refl; past = ltb-true (when + frozen_for b.timers) b.clock is }
    by_test false is h = absurd cc
gone b stage h = absurd cc

late_stays : (m : Moved) → Late m → due m.base m.stage ≡ None → ⊥
late_stays m late h = let g = gone m.base m.stage h in let same = late.late g.when g.is in omega (arith, g.past, same)

over_frozen : (now : ℕ) (end : End) (when : ℕ) → end.stage ≡ Frozen when
    → due (on_tick (base_at now end.base) (Frozen when)).base (on_tick (base_at now end.base) (Frozen when)).stage ≡ None → IsFreeAt now (Some end)
over_frozen now end when is h =
    let g = gone (base_at now end.base) (Frozen when) h in
    let same : g.when ≡ when = when_is g.when when (sym g.is) in
    Over end when refl is (subst (λ (n : ℕ). n + frozen_for end.base.timers < now) same g.past)
  where
    when_is : (one other : ℕ) → Frozen one ≡ Frozen other → one ≡ other
    when_is one other h = cc h

over_tick : (now : ℕ) (end : End) (stage : StateData) → end.stage ≡ stage → due (on_tick (base_at now end.base) stage).base (on_tick (base_at now end.base) stage).stage ≡ None → IsFreeAt now (Some end)
over_tick now end (CrWait w) is h = absurd (late_stays (cr_wait_tick (base_at now end.base) w) (cr_late (base_at now end.base) w) h)
over_tick now end (WaitBeforeClose w) is h = absurd (late_stays (wait_before_close_tick (base_at now end.base) w) (wait_late (base_at now end.base) w) h)
over_tick now end (UserWait since) is h = absurd (late_stays (user_wait_tick (base_at now end.base) since) (user_late (base_at now end.base) since) h)
over_tick now end (AkWait w) is h = absurd (late_stays (ak_wait_tick (base_at now end.base) w) (ak_late (base_at now end.base) w) h)
over_tick now end (Opened o) is h = absurd (late_stays (opened_tick (base_at now end.base) o) (opened_late (base_at now end.base) o) h)
over_tick now end (Closing c) is h = absurd (late_stays (closing_tick (base_at now end.base) c) (closing_late (base_at now end.base) c) h)
over_tick now end (Frozen when) is h = over_frozen now end when is h

kept_goes : (wrap : ℕ → ℕ → ℕ) (now : ℕ) (end : End) (next : Option ℕ) → due (stepped wrap now end Ticked).base (stepped wrap now end Ticked).stage ≡ next
    → Goes wrap now end (kept_end (stepped wrap now end Ticked) next) ⊎ IsFreeAt now (Some end)
kept_goes wrap now end None h = inr (over_tick now end end.stage refl h)
kept_goes wrap now end (Some tick) h = inl (Moves Ticked refl)

ticked_keeps : (wrap : ℕ → ℕ → ℕ) (now : ℕ) (e : Entity) (reference : ℕ) (end : End) → end_at e reference ≡ Some end → KeepsEnds wrap now e (ticked_to e reference (stepped wrap now end Ticked)).entity
ticked_keeps wrap now e reference end h =
    let m = stepped wrap now end Ticked in
    set_keeps wrap now e reference (kept_end m (due m.base m.stage)) (within e reference end h)
    (λ one is. subst (λ (x : End). Goes wrap now x (kept_end m (due m.base m.stage)) ⊎ IsFreeAt now (Some x)) (same_end end one (sym h ∙ is)) (kept_goes wrap now end (due m.base m.stage) refl))

tick_end_keeps : (wrap : ℕ → ℕ → ℕ) (now : ℕ) (e : Entity) (reference : ℕ) (place : Place) → end_at e reference ≡ place → KeepsEnds wrap now e (ticking_end wrap now e reference place).entity
tick_end_keeps wrap now e reference None is = all_stay wrap now e
tick_end_keeps wrap now e reference (Some end) is = ticked_keeps wrap now e reference end is

tick_at_keeps : (wrap : ℕ → ℕ → ℕ) (now : ℕ) (e : Entity) (found : Option ℕ) → KeepsEnds wrap now e (ticking_at wrap now e found).entity
tick_at_keeps wrap now e None = all_stay wrap now e
tick_at_keeps wrap now e (Some reference) = tick_end_keeps wrap now e reference (end_at e reference) refl

pub ticking_keeps : (wrap : ℕ → ℕ → ℕ) (now : ℕ) (e : Entity) → KeepsEnds wrap now e (ticking wrap now e).entity
ticking_keeps wrap now e = tick_at_keeps wrap now (at now e) (first_due now e)
