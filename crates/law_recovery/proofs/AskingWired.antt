-- What ends in CrWait come to over whole numbers they come to over those of the wire: neither they nor the ends that they called have a number that the wire has not.
use Rattle.std.proofs.Common.{◌++◌, ◌∙◌, ◌≡◌, List, Some, ℕ, ap, inl, inr, refl, subst, sym}
use Rattle.std.specs.Prelude.{option_map}
use Rattle.std.specs.List.{AllByRecursion}
use Rattle.osi_base.specs.Calls.{Call}
use Rattle.osi_base.specs.Link.{Link}
use Rattle.script_journal.specs.declared.event.Event.{Event}
use Rattle.tpdu.specs.declared.service.GoneCause.{GoneCause}
use Rattle.tpdu.specs.declared.service.GoneCause.TheVariants.{Exhausted, Protocol, Reason}
use Rattle.tp4_conn.specs.End.{End}
use Rattle.tp4_conn.specs.Wire.{end_on_wire, stage_on_wire}
use Rattle.tp4_conn.specs.declared.states.InAkWait.{InAkWait}
use Rattle.tp4_conn.specs.declared.states.StateData.{StateData}
use Rattle.tp4_conn.specs.declared.states.StateData.TheVariants.{AkWait, CrWait, UserWait}
use Rattle.tp4_conn.specs.declared.timers.Timers.{Timers}
use Rattle.tp4_entity.specs.Wire.{entity_on_wire}
use Rattle.tp4_world.specs.First.{HasNoEnd}
use Rattle.tp4_world.specs.Laws.{WholeLine, WholeRun}
use Rattle.tp4_world.specs.Wire.{world_on_wire}
use Rattle.tp4_world.specs.World.{World, end_numbered}
use Rattle.tp4_world.specs.declared.place.Placed.{Placed}
use Rattle.tp4_world.proofs.OnWire.{found_on}
use Rattle.law_tp4_lawful.proofs.WorldStarts.{no_ends}
use Rattle.law_calm_run.specs.Service.{end_at_number}
use Rattle.law_calm_run.proofs.WiredEnds.{placed_on, upper_end, upper_waiting}
use Rattle.law_recovery_run.specs.Requesting.{AreListening, IsUnanswered}
use Rattle.law_recovery.proofs.Wired.{run_above}
use Rattle.law_recovery_run.specs.Asked.{AreAccepted, AreAsked, By_itself, By_user, Confirmed, HaveAsked, IsIndicatedNow, IsNamedCause, IsOpenStill, IsTold, IsUnregistered}
use Rattle.law_recovery.specs.Laws.{AsksOnWire}

lower_end : {C : Type 0} (world : World C) (number : ℕ) (end : End) → end_at_number world number ≡ Some end → end_at_number (world_on_wire world) number ≡ Some (end_on_wire end)
lower_end world number end is = placed_on world number (end_numbered world.ends number) ∙ ap (option_map end_on_wire) is

unanswered_above : (stage : StateData) → IsUnanswered (stage_on_wire stage) → IsUnanswered stage
unanswered_above (UserWait since) un = un
unanswered_above stage un = un

listening_above : {C : Type 0} (now : ℕ) (world : World C) (to : List ℕ) → AreListening now (world_on_wire world) to → AreListening now world to
listening_above now world to was system entity there own = was system (entity_on_wire entity) (found_on world.entities system ∙ ap (option_map entity_on_wire) there) own

indicated_on_wire : {C : Type 0} (journal : List Event) (last : World C) (x : ℕ) → IsIndicatedNow journal last x → IsIndicatedNow journal (world_on_wire last) x
indicated_on_wire journal last x i = record {
  e = end_on_wire i.e;
  w = i.w;
  calling = lower_end last x i.e i.calling;
  asks = ap stage_on_wire i.asks;
  y = i.y;
  f = end_on_wire i.f;
  since = i.since;
  partners = i.partners;
  called = lower_end last i.y i.f i.called;
  waits = ap stage_on_wire i.waits;
}

cause_as : (One Other : Type 0) → (One → Other) → (cause : GoneCause) → IsNamedCause One cause → IsNamedCause Other cause
cause_as One Other f Exhausted named = tt
cause_as One Other f Protocol named = tt
cause_as One Other f (Reason reason) (inl refused) = inl refused
cause_as One Other f (Reason reason) (inr (inl gone)) = inr (inl gone)
cause_as One Other f (Reason reason) (inr (inr (inl three))) = inr (inr (inl (three.0, f three.1)))
cause_as One Other f (Reason reason) (inr (inr (inr spent))) = inr (inr (inr spent))
cause_as One Other f other named = absurd named

told_as : (One Other : Type 0) → (One → Other) → (late : List Event) (x : ℕ) → IsTold One late x → IsTold Other late x
told_as One Other f late x (Confirmed options octets stands) = Confirmed options octets stands
told_as One Other f late x (By_user octets stands) = By_user octets stands
told_as One Other f late x (By_itself cause octets named stands) = By_itself cause octets (cause_as One Other f cause named) stands

told_above : {C : Type 0} (at_t0 : World C) (e upper : End) → e ≡ end_on_wire upper → (late : List Event) (x : ℕ) → IsTold (IsUnregistered at_t0 upper.base.to upper.base.called) late x
    → IsTold (IsUnregistered (world_on_wire at_t0) e.base.to e.base.called) late x
told_above at_t0 e upper is late x told = subst (λ (z : End). IsTold (IsUnregistered (world_on_wire at_t0) z.base.to z.base.called) late x) (sym is)
    (told_as (IsUnregistered at_t0 upper.base.to upper.base.called) (IsUnregistered (world_on_wire at_t0) upper.base.to upper.base.called)
    (λ u. record { system = u.system; entity = entity_on_wire u.entity; there = found_on at_t0.entities u.system ∙ ap (option_map entity_on_wire) u.there; own_is = u.own_is; none = u.none }) late x told)

asked_on_wire : {C : Type 0} (link : C → Link (List ℕ)) (t : Timers) (at_t0 last : World C) (early late : List Event) → AreAsked link t at_t0 last early late
    → AreAsked link t (world_on_wire at_t0) (world_on_wire last) early late
asked_on_wire {C} link t at_t0 last early late asked x e w e_is e_asks still past =
    let one = upper_end at_t0 x e e_is in
    let asks : one.end.stage ≡ CrWait w = upper_waiting one.end.stage w (sym (ap (λ (z : End). z.stage) one.is) ∙ e_asks) in
    let above : IsOpenStill link early at_t0 x one.end = record {
      unanswered = λ y f partners f_is. unanswered_above f.stage (still.unanswered y (end_on_wire f) partners (lower_end at_t0 y f f_is));
      listening = listening_above (link at_t0.carrier).clock at_t0 one.end.base.to (subst (λ (z : End). AreListening (link at_t0.carrier).clock (world_on_wire at_t0) z.base.to) one.is still.listening);
    } in
    elim (asked x one.end w one.stands asks above past) [
      | inl i ↦ inl (indicated_on_wire (early ++ late) last x i)
      | inr told ↦ inr (told_above at_t0 e one.end one.is late x told)
    ]

ak_above : (stage : StateData) (v : InAkWait) → stage_on_wire stage ≡ AkWait v → (upper : InAkWait) × (stage ≡ AkWait upper)
ak_above (AkWait w) v is = (w, refl)
ak_above stage v is = absurd (cc is)

accepted_on_wire : {C : Type 0} (link : C → Link (List ℕ)) (t : Timers) (at_t0 last : World C) (early late : List Event) → AreAccepted link t at_t0 last early late
    → AreAccepted link t (world_on_wire at_t0) (world_on_wire last) early late
accepted_on_wire {C} link t at_t0 last early late accepted x y e f w v partners e_is f_is e_asks f_accepted past =
    let one = upper_end at_t0 x e e_is in
    let other = upper_end at_t0 y f f_is in
    let asks : one.end.stage ≡ CrWait w = upper_waiting one.end.stage w (sym (ap (λ (z : End). z.stage) one.is) ∙ e_asks) in
    let accepts = ak_above other.end.stage v (sym (ap (λ (z : End). z.stage) other.is) ∙ f_accepted) in
    elim (accepted x y one.end other.end w accepts.0 partners one.stands other.stands asks accepts.1 past) [
      | inl told ↦ inl (told_above at_t0 e one.end one.is late x told)
      | inr spent ↦ inr spent
    ]

have_on_wire : {C : Type 0} (link : C → Link (List ℕ)) (t : Timers) (at_t0 last : World C) (early late : List Event) → HaveAsked link t at_t0 last early late
    → HaveAsked link t (world_on_wire at_t0) (world_on_wire last) early late
have_on_wire {C} link t at_t0 last early late both = record { asked = asked_on_wire link t at_t0 last early late both.asked; accepted = accepted_on_wire link t at_t0 last early late both.accepted }

module _ {C : Type 0} (link : C → Link (List ℕ)) (steps : C → Call (List ℕ) → C → Type 0) (whole_run : WholeRun link steps) (whole_line : WholeLine link steps) where
  pub asks_on_wire : AsksOnWire link steps
  asks_on_wire titles begins asks timers made placed begun early late script first at_t0 last begins_is timed distinct have is_first untouched starts run =
      let none = subst (λ (w : World C). AllByRecursion (λ (one : Placed). HasNoEnd one.entity) w.entities) (sym starts.becomes) (no_ends titles placed is_first.entities) in
      let above = run_above link steps whole_run whole_line titles first at_t0 last script early late none run in
      subst (λ (w : World C). HaveAsked link timers w last (begun ++ early) late) (sym above.mid_is)
      (subst (λ (w : World C). HaveAsked link timers (world_on_wire above.mid) w (begun ++ early) late) (sym above.end_is)
      (have_on_wire link timers above.mid above.end (begun ++ early) late
      (asks timers made placed begun early late script first above.mid above.end begins_is timed distinct have is_first untouched starts above.run)))
