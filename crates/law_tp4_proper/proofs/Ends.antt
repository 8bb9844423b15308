-- What each end keeps is kept by all ends of an entity, since a step changes one place at most; and none is due exactly where each is due later.
use Rattle.std.proofs.Common.{◌≡◌, ◌⊎◌, inl, inr, ◌==◌, not, nat_lt, ℕ, zero, suc, ◌+◌, ◌-◌, ◌<◌, ◌≤◌, Bool, true, false, cond, List, [], ◌∷◌, length, slice_get, slice_set, replicate, option_map, Option, Some, None, refl, sym, ap, subst, ◌∙◌, arith}
use Rattle.std.specs.List.{list_any, position, position_or_len}
use Rattle.std.proofs.lemmas.Bool.{lt-leb, ltb-false}
use Rattle.std.proofs.lemmas.Option.{none-some}
use Rattle.tpdu.specs.Values.{TpduAndSum, destination_of, format_for}
use Rattle.tpdu.specs.Writing.{IsAllowed}
use Rattle.tpdu.specs.declared.tpdu.Format.{Format}
use Rattle.tpdu.specs.declared.tpdu.Format.TheVariants.{Normal as Plain}
use Rattle.tpdu.specs.declared.tpdu.Tpdu.{Tpdu}
use Rattle.tpdu.specs.declared.tpdu.Tpdu.TheVariants.{Cr, Cc, Dr, Dc, Dt, Ed, Ak, Ea, Er}
use Rattle.tp4_number.proofs.Past.{if_kept}
use Rattle.tp4_flow.specs.declared.step.Sent.{Sent}
use Rattle.tp4_conn.specs.Calls.{IsCall, call_refusal}
use Rattle.tp4_conn.specs.Dues.{IsBefore}
use Rattle.tp4_conn.specs.End.{End, IsTimed, Moved, agreed_format, end_of}
use Rattle.tp4_conn.specs.Living.{IsInTime}
use Rattle.tp4_conn.specs.Making.{connected, on_cr}
use Rattle.tp4_conn.specs.Matching.{is_match}
use Rattle.tp4_conn.specs.Proper.{AreSendable, IsProperCall}
use Rattle.tp4_conn.specs.Table.{Called, Took, Ticked, due, stepped}
use Rattle.tp4_conn.specs.declared.call.CallRefusal.{CallRefusal}
use Rattle.tp4_conn.specs.declared.call.ConnectRequest.{ConnectRequest}
use Rattle.tp4_conn.specs.declared.call.UserCall.{UserCall}
use Rattle.tp4_conn.specs.declared.timers.Timers.{Timers}
use Rattle.tp4_entity.specs.Association.{answers, calls, is_called, is_registered, met, met_by, new_end, refusal, requested, stateless, unmatched}
use Rattle.tp4_entity.specs.Entity.{Acted, Entity, at, end_at, moved, there, with_end}
use Rattle.tp4_entity.specs.References.{least_free}
use Rattle.tp4_entity.specs.Step.{call_of, calling, calling_end, connecting, first_due, is_due, is_due_by, kept_end, refused_by, ticked_to, ticking, ticking_at, ticking_end, user_refusal, end_refusal}
use Rattle.tp4_entity.specs.Unit.{extended_of}
use Rattle.tp4_entity.specs.steps.Places.{format_of}
use Rattle.tp4_entity.proofs.Formats.{format_is}
use Rattle.tp4_entity.proofs.PlaceLaws.{Place, end_at_of, no_position}
use Rattle.tp4_entity.proofs.Dues.{before_by, before_in_time, before_next}
use Rattle.tp4_entity.proofs.Units.{there_is}
use Rattle.law_tp4_proper.specs.Rest.{AreInTime, AreProper, IsAtRest, IsProperEnd, IsProperStep, IsProperTick}
use Rattle.law_tp4_proper.proofs.Rows.{Rests, StepRests, called_rests, connected_rests, indicated_rests, ticked_later, ticked_rests, took_rests}

-- ---- one place changes

abbrev pub AllEnds : (End → Type 0) → Entity → Type 0
AllEnds Q e = (reference : ℕ) (end : End) → end_at e reference ≡ Some end → Q end

set_or : (places : List Place) (k j : ℕ) (place : Place) (end : End) → there (slice_get (slice_set places k place) j) ≡ Some end
    → (there (slice_get places j) ≡ Some end) ⊎ (place ≡ Some end)
set_or [] k j place end h = inl h
set_or (one ∷ places) zero zero place end h = inr h
set_or (one ∷ places) zero (suc j) place end h = inl h
set_or (one ∷ places) (suc k) zero place end h = inl h
set_or (one ∷ places) (suc k) (suc j) place end h = set_or places k j place end h

set_get : (places : List Place) (k : ℕ) (place old : Place) → slice_get places k ≡ Some old → slice_get (slice_set places k place) k ≡ Some place
set_get [] k place old h = absurd cc
set_get (one ∷ places) zero place old h = refl
set_get (one ∷ places) (suc k) place old h = set_get places k place old h

pub set_ends : (Q : End → Type 0) (e : Entity) (reference : ℕ) (place : Place) → AllEnds Q e → ((end : End) → place ≡ Some end → Q end) → AllEnds Q (with_end e reference place)
set_ends Q e reference place all here zero end h = absurd cc
set_ends Q e reference place all here (suc j) end h =
    elim (set_or e.ends (reference - 1) j place end (sym (end_at_of (with_end e reference place) (suc j) j (omega arith)) ∙ h)) [
      | inl old ↦ all (suc j) end (end_at_of e (suc j) j (omega arith) ∙ old)
      | inr new ↦ here end new
    ]

pub same_end : (Q : End → Type 0) (one end : End) → Q one → Some one ≡ Some end → Q end
same_end Q one end q h = let is : one ≡ end = cc h in subst Q is q

-- ---- none is due

none_pass : (test : Place → Bool) (places : List Place) (k : ℕ) (place : Place) → length places ≤ position_or_len test places → slice_get places k ≡ Some place → test place ≡ false
none_pass test [] k place low h = absurd cc
none_pass test (one ∷ places) k place low h = by (test one) refl k h (λ (j : ℕ) less get. none_pass test places j place less get)
  where
    by : (b : Bool) → test one ≡ b → (k : ℕ) → slice_get (one ∷ places) k ≡ Some place
        → ((j : ℕ) → length places ≤ position_or_len test places → slice_get places j ≡ Some place → test place ≡ false) → test place ≡ false
    by true is k h rest =
        let first : position_or_len test (one ∷ places) ≡ 0 = ap (λ (b : Bool). cond (not b) (1 + position_or_len test places) 0) is in absurd (omega (arith, low, first))
    by false is zero h rest = let same : one ≡ place = cc h in ap test (sym same) ∙ is
    by false is (suc k) h rest =
        let more : position_or_len test (one ∷ places) ≡ 1 + position_or_len test places = ap (λ (b : Bool). cond (not b) (1 + position_or_len test places) 0) is in
        rest k (omega (arith, low, more)) h

no_place : (found : Option ℕ) → option_map (λ (place : ℕ). place + 1) found ≡ None → found ≡ None
no_place None h = refl
no_place (Some place) h = absurd (none-some _ (sym h))

past_all : (test : Place → Bool) (places : List Place) → position test places ≡ None → length places ≤ position_or_len test places
past_all test places h = by (nat_lt (position_or_len test places) (length places)) refl h
  where
    by : (b : Bool) → nat_lt (position_or_len test places) (length places) ≡ b → cond b (Some (position_or_len test places)) None ≡ None → length places ≤ position_or_len test places
    by true is h = absurd (none-some _ (sym h))
    by false is h = ltb-false _ _ is

by_later : (next : Option ℕ) (now : ℕ) → IsBefore next now → is_due_by now next ≡ false
by_later None now h = refl
by_later (Some tick) now h = lt-leb tick now h

idle_later : (now : ℕ) (e : Entity) → first_due now e ≡ None → (reference : ℕ) (end : End) → end_at e reference ≡ Some end → IsBefore (due end.base end.stage) now
idle_later now e idle zero end h = absurd cc
idle_later now e idle (suc k) end h =
    let none : position (is_due now) e.ends ≡ None = no_place (position (is_due now) e.ends) idle in
    let get : slice_get e.ends k ≡ Some (Some end) = there_is (slice_get e.ends k) end (sym (end_at_of e (suc k) k (omega arith)) ∙ h) in
    before_by (due end.base end.stage) now (none_pass (is_due now) e.ends k (Some end) (past_all (is_due now) e.ends none) get)

later_idle : (now : ℕ) (e : Entity) → ((reference : ℕ) (end : End) → end_at e reference ≡ Some end → IsBefore (due end.base end.stage) now) → first_due now e ≡ None
later_idle now e all = ap (option_map (λ (place : ℕ). place + 1)) (no_position (is_due now) e.ends each)
  where
    each : (k : ℕ) (place : Place) → k < length e.ends → slice_get e.ends k ≡ Some place → is_due now place ≡ false
    each k None low get = refl
    each k (Some end) low get = by_later (due end.base end.stage) now (all (k + 1) end (end_at_of e (k + 1) k refl ∙ ap there get))

all_rest : (now : ℕ) (e : Entity) → IsAtRest now e → AllEnds (Rests e.timers now) e
all_rest now e r reference end h = record { end = r.proper.ends reference end h; later = idle_later now e r.idle reference end h }

at_rest : (now : ℕ) (e : Entity) → IsTimed e.timers → 1 ≤ e.timers.inactive → AllEnds (Rests e.timers now) e → IsAtRest now e
at_rest now e timed some all = record {
  proper = record { timers = timed; inactive = some; ends = λ reference end h. (all reference end h).end };
  idle = later_idle now e (λ reference end h. (all reference end h).later);
}

-- ---- each step

stays_rest : (now : ℕ) (e : Entity) (tpdus : List Sent) → IsAtRest now e → AreSendable tpdus → IsProperStep now (answers e tpdus)
stays_rest now e tpdus r fits = record { rest = r; tpdus = fits }

moved_rest : (now : ℕ) (e : Entity) (reference : ℕ) (m : Moved) → IsAtRest now e → StepRests e.timers now m → IsProperStep now (moved e reference m)
moved_rest now e reference m r s = record {
  rest = at_rest now (with_end e reference (Some (end_of m))) r.proper.timers r.proper.inactive
      (set_ends (Rests e.timers now) e reference (Some (end_of m)) (all_rest now e r) (λ end is. same_end (Rests e.timers now) (end_of m) end s.rests is));
  tpdus = s.tpdus;
}

pub clocked : (now clock : ℕ) (e : Entity) → IsAtRest now e → IsAtRest now (at clock e)
clocked now clock e r = record { proper = record { timers = r.proper.timers; inactive = r.proper.inactive; ends = r.proper.ends }; idle = r.idle }

pub new_rests : (now references : ℕ) (e : Entity) → e.ends ≡ replicate references None → IsTimed e.timers → 1 ≤ e.timers.inactive → IsAtRest now e
new_rests now references e is timed some = at_rest now e timed some none
  where
    empty : (count k : ℕ) → there (slice_get (replicate count None) k) ≡ None
    empty zero k = refl
    empty (suc count) zero = refl
    empty (suc count) (suc k) = empty count k

    none : AllEnds (Rests e.timers now) e
    none zero end h = absurd cc
    none (suc k) end h =
        absurd (none-some _ (sym (ap (λ (l : List Place). there (slice_get l k)) is ∙ empty references k) ∙ sym (end_at_of e (suc k) k (omega arith)) ∙ h))

pub connecting_rests : (now reference : ℕ) (e : Entity) (request : ConnectRequest) → IsAtRest now e → least_free now e ≡ Some reference → IsProperCall (call_of e reference request)
    → IsProperStep now (connecting now e reference request)
connecting_rests now reference e request r free proper = moved_rest now (at now e) reference (connected now (call_of e reference request)) (clocked now now e r) (connected_rests now (call_of e reference request) proper)

pub not_refused : (why : Option CallRefusal) → refused_by why ≡ None → why ≡ None
not_refused None h = refl
not_refused (Some why) h = absurd (none-some _ (sym h))

called_end : (wrap : ℕ → ℕ → ℕ) (now reference : ℕ) (e : Entity) (call : UserCall) (place : Place) → end_at e reference ≡ place → IsAtRest now e → end_refusal call place ≡ None → IsCall call
    → IsProperStep now (calling_end wrap now e reference call place)
called_end wrap now reference e call None is r may c = absurd (none-some _ (sym may))
called_end wrap now reference e call (Some end) is r may c =
    moved_rest now e reference (stepped wrap now end (Called call)) r
    (called_rests wrap e.timers now end call r.proper.inactive (all_rest now e r reference end is) (not_refused (call_refusal end.base end.stage call) may, c))

pub calling_rests : (wrap : ℕ → ℕ → ℕ) (now reference : ℕ) (e : Entity) (call : UserCall) → IsAtRest now e → user_refusal e reference call ≡ None → IsCall call
    → IsProperStep now (calling wrap now e reference call)
calling_rests wrap now reference e call r may c = called_end wrap now reference (at now e) call (end_at e reference) refl (clocked now now e r) may c

-- a TPDU
refusal_fits : (to : List ℕ) (reference reason : ℕ) → AreSendable (refusal to reference reason ∷ [])
refusal_fits to reference reason = ((refl, omega arith), tt)

stateless_fits : (from : List ℕ) (tpdu : Tpdu) → AreSendable (stateless from tpdu)
stateless_fits from (Cc credit destination source width calling called size preferred extra version classes ack_time text) = refusal_fits from source 132
stateless_fits from (Dr destination source reason info text) = if_kept AreSendable (source == 0) _ _ (λ _. tt) (λ _. ((tt, tt), tt))
stateless_fits from (Cr credit source width calling called size preferred extra version classes ack_time text) = tt
stateless_fits from (Dc destination source) = tt
stateless_fits from (Dt destination last number text) = tt
stateless_fits from (Ed destination last number text) = tt
stateless_fits from (Ak destination number credit subsequence confirmation) = tt
stateless_fits from (Ea destination number) = tt
stateless_fits from (Er destination cause rejected) = tt

unmatched_rests : (now : ℕ) (e : Entity) (from : List ℕ) (tpdu : Tpdu) → IsAtRest now e → IsProperStep now (unmatched e from tpdu)
unmatched_rests now e from tpdu r = record { rest = r; tpdus = stateless_fits from tpdu }

met_end : (wrap : ℕ → ℕ → ℕ) (now : ℕ) (e : Entity) (from : List ℕ) (tpdu : Tpdu) (sum : Bool) (reference : ℕ) (place : Place) → end_at e reference ≡ place → IsAtRest now e
    → IsAllowed (format_for (extended_of e) (Some reference)) tpdu → IsProperStep now (met_by wrap now e from (tpdu, sum) reference place)
met_end wrap now e from tpdu sum reference None is r allowed = unmatched_rests now e from tpdu r
met_end wrap now e from tpdu sum reference (Some end) is r allowed =
    let format : format_for (extended_of e) (Some reference) ≡ agreed_format end.base.agreed = format_is e reference ∙ ap (λ (p : Place). format_of p) is in
    if_kept (IsProperStep now) (is_match end.base end.stage from tpdu) (moved e reference (stepped wrap now end (Took tpdu sum))) (unmatched e from tpdu)
    (λ _. moved_rest now e reference (stepped wrap now end (Took tpdu sum)) r
    (took_rests wrap e.timers now end tpdu sum r.proper.inactive (all_rest now e r reference end is) (subst (λ (f : Format). IsAllowed f tpdu) format allowed)))
    (λ _. unmatched_rests now e from tpdu r)

made_rests : (now : ℕ) (e : Entity) (reference : ℕ) (from : List ℕ) (cr : Tpdu) (made : Option Moved) → on_cr now reference from e.timers cr ≡ made → IsAtRest now e → IsAllowed Plain cr
    → IsProperStep now (calls e reference made)
made_rests now e reference from cr None is r allowed = stays_rest now e [] r tt
made_rests now e reference from cr (Some m) is r allowed =
    moved_rest now e reference m r (indicated_rests now reference from e.timers cr m r.proper.timers r.proper.inactive allowed is)

new_end_rests : (now : ℕ) (e : Entity) (from : List ℕ) (source : ℕ) (cr : Tpdu) (found : Option ℕ) → IsAtRest now e → IsAllowed Plain cr → IsProperStep now (new_end now e from source cr found)
new_end_rests now e from source cr None r allowed = stays_rest now e _ r (refusal_fits from source 129)
new_end_rests now e from source cr (Some reference) r allowed = made_rests now e reference from cr (on_cr now reference from e.timers cr) refl r allowed

requested_rests : (now : ℕ) (e : Entity) (from : List ℕ) (source : ℕ) (called : List ℕ) (cr : Tpdu) → IsAtRest now e → IsAllowed Plain cr → IsProperStep now (requested now e from source called cr)
requested_rests now e from source called cr r allowed =
    if_kept (IsProperStep now) (list_any (is_called false from source) e.ends) _ _
    (λ _. stays_rest now e [] r tt)
    (λ _. if_kept (IsProperStep now) (list_any (is_called true from source) e.ends) _ _
    (λ _. stays_rest now e _ r (refusal_fits from source 131))
    (λ _. if_kept (IsProperStep now) (not (is_registered e.selectors called)) _ _
    (λ _. stays_rest now e _ r (refusal_fits from source 3))
    (λ _. new_end_rests now e from source cr (least_free now e) r allowed)))

pub met_rests : (wrap : ℕ → ℕ → ℕ) (now : ℕ) (e : Entity) (from : List ℕ) (tpdu : TpduAndSum) → IsAtRest now e → IsAllowed (format_for (extended_of e) (destination_of tpdu.0)) tpdu.0
    → IsProperStep now (met wrap now e from tpdu)
met_rests wrap now e from (Cr credit source width calling called size preferred extra version classes ack_time text, sum) r allowed =
    requested_rests now e from source called (Cr credit source width calling called size preferred extra version classes ack_time text) r allowed
met_rests wrap now e from (Cc credit destination source width calling called size preferred extra version classes ack_time text, sum) r allowed =
    met_end wrap now e from (Cc credit destination source width calling called size preferred extra version classes ack_time text) sum destination (end_at e destination) refl r allowed
met_rests wrap now e from (Dr destination source reason info text, sum) r allowed =
    met_end wrap now e from (Dr destination source reason info text) sum destination (end_at e destination) refl r allowed
met_rests wrap now e from (Dc destination source, sum) r allowed = met_end wrap now e from (Dc destination source) sum destination (end_at e destination) refl r allowed
met_rests wrap now e from (Dt destination last number text, sum) r allowed =
    met_end wrap now e from (Dt destination last number text) sum destination (end_at e destination) refl r allowed
met_rests wrap now e from (Ed destination last number text, sum) r allowed =
    met_end wrap now e from (Ed destination last number text) sum destination (end_at e destination) refl r allowed
met_rests wrap now e from (Ak destination number credit subsequence confirmation, sum) r allowed =
    met_end wrap now e from (Ak destination number credit subsequence confirmation) sum destination (end_at e destination) refl r allowed
met_rests wrap now e from (Ea destination number, sum) r allowed = met_end wrap now e from (Ea destination number) sum destination (end_at e destination) refl r allowed
met_rests wrap now e from (Er destination cause rejected, sum) r allowed =
    met_end wrap now e from (Er destination cause rejected) sum destination (end_at e destination) refl r allowed

-- ---- a tick

record InTime (t : Timers) (now : ℕ) (e : End) : Type 0 where
  end : IsProperEnd t e
  in_time : IsInTime (due e.base e.stage) now

rests_in_time : (t : Timers) (now : ℕ) (e : End) → Rests t now e → InTime t now e
rests_in_time t now e r = record { end = r.end; in_time = before_in_time (due e.base e.stage) now r.later }

all_in_time : (now : ℕ) (e : Entity) → AreProper e → AreInTime now e → AllEnds (InTime e.timers now) e
all_in_time now e p soon reference end h = record { end = p.ends reference end h; in_time = soon reference end h }

in_time : (now : ℕ) (e : Entity) (acted : Acted) → AreProper e → acted.entity.timers ≡ e.timers → AllEnds (InTime e.timers now) acted.entity → AreSendable acted.tpdus → IsProperTick now acted
in_time now e acted p same all fits = record {
  proper = record {
    timers = subst (λ (t : Timers). IsTimed t) (sym same) p.timers;
    inactive = subst (λ (t : Timers). 1 ≤ t.inactive) (sym same) p.inactive;
    ends = λ reference end h. subst (λ (t : Timers). IsProperEnd t end) (sym same) (all reference end h).end;
  };
  in_time = λ reference end h. (all reference end h).in_time;
  tpdus = fits;
}

kept_in_time : (t : Timers) (now : ℕ) (m : Moved) (next : Option ℕ) → StepRests t now m → (end : End) → kept_end m next ≡ Some end → InTime t now end
kept_in_time t now m None s end h = absurd (none-some _ h)
kept_in_time t now m (Some tick) s end h = same_end (InTime t now) (end_of m) end (rests_in_time t now (end_of m) s.rests) h

tick_end : (wrap : ℕ → ℕ → ℕ) (now : ℕ) (e : Entity) (reference : ℕ) (place : Place) → end_at e reference ≡ place → AreProper e → AreInTime now e
    → IsProperTick now (ticking_end wrap now e reference place)
tick_end wrap now e reference None is p soon = in_time now e _ p refl (all_in_time now e p soon) tt
tick_end wrap now e reference (Some end) is p soon =
    let m = stepped wrap now end Ticked in
    let s = ticked_rests wrap e.timers now end (p.ends reference end is) (soon reference end is) in
    in_time now e (ticked_to e reference m) p refl
    (set_ends (InTime e.timers now) e reference (kept_end m (due m.base m.stage)) (all_in_time now e p soon) (kept_in_time e.timers now m (due m.base m.stage) s))
    s.tpdus

tick_at : (wrap : ℕ → ℕ → ℕ) (now : ℕ) (e : Entity) (found : Option ℕ) → AreProper e → AreInTime now e → IsProperTick now (ticking_at wrap now e found)
tick_at wrap now e None p soon = in_time now e _ p refl (all_in_time now e p soon) tt
tick_at wrap now e (Some reference) p soon = tick_end wrap now e reference (end_at e reference) refl p soon

pub ticking_proper : (wrap : ℕ → ℕ → ℕ) (now : ℕ) (e : Entity) → AreProper e → AreInTime now e → IsProperTick now (ticking wrap now e)
ticking_proper wrap now e p soon = tick_at wrap now (at now e) (first_due now e) (record { timers = p.timers; inactive = p.inactive; ends = p.ends }) soon

pub waits : (now : ℕ) (e : Entity) → first_due now e ≡ None → AreInTime now e × AreInTime (now + 1) e
waits now e idle = (
  λ reference end h. before_in_time (due end.base end.stage) now (idle_later now e idle reference end h),
  λ reference end h. before_next (due end.base end.stage) now (idle_later now e idle reference end h),
)

-- the end that ticked
pub kept_later : (now : ℕ) (m : Moved) (next : Option ℕ) → IsBefore (due m.base m.stage) now → is_due now (kept_end m next) ≡ false
kept_later now m None low = refl
kept_later now m (Some tick) low = by_later (due m.base m.stage) now low

after_end : (wrap : ℕ → ℕ → ℕ) (now : ℕ) (e : Entity) (reference : ℕ) (place : Place) → end_at e reference ≡ place → AreProper e
    → is_due now (end_at (ticking_end wrap now e reference place).entity reference) ≡ false
after_end wrap now e reference None is p = ap (is_due now) is
after_end wrap now e reference (Some end) is p =
    ap (is_due now) (there_now reference is) ∙ kept_later now m (due m.base m.stage) (ticked_later wrap now end (p.ends reference end is).proper)
  where
    m : Moved
    m = stepped wrap now end Ticked

    there_now : (r : ℕ) → end_at e r ≡ Some end → end_at (with_end e r (kept_end m (due m.base m.stage))) r ≡ kept_end m (due m.base m.stage)
    there_now zero h = absurd (none-some _ h)
    there_now (suc k) h =
        let get : slice_get e.ends k ≡ Some (Some end) = there_is (slice_get e.ends k) end (sym (end_at_of e (suc k) k (omega arith)) ∙ h) in
        let back : suc k - 1 ≡ k = omega arith in
        end_at_of (with_end e (suc k) (kept_end m (due m.base m.stage))) (suc k) k (omega arith)
        ∙ ap (λ (n : ℕ). there (slice_get (slice_set e.ends n (kept_end m (due m.base m.stage))) k)) back ∙ ap there (set_get e.ends k (kept_end m (due m.base m.stage)) (Some end) get)

after_at : (wrap : ℕ → ℕ → ℕ) (now reference : ℕ) (e : Entity) (found : Option ℕ) → AreProper e → found ≡ Some reference → is_due now (end_at (ticking_at wrap now e found).entity reference) ≡ false
after_at wrap now reference e None p h = absurd (none-some _ h)
after_at wrap now reference e (Some first) p h =
    let same : first ≡ reference = cc h in
    subst (λ (n : ℕ). is_due now (end_at (ticking_at wrap now e (Some first)).entity n) ≡ false) same (after_end wrap now e first (end_at e first) refl p)

pub ticking_after : (wrap : ℕ → ℕ → ℕ) (now reference : ℕ) (e : Entity) → AreProper e → first_due now e ≡ Some reference → is_due now (end_at (ticking wrap now e).entity reference) ≡ false
ticking_after wrap now reference e p h = after_at wrap now reference (at now e) (first_due now e) (record { timers = p.timers; inactive = p.inactive; ends = p.ends }) h
