-- A call is answered by `wrongstate ended` where its end has ended, and else by another refusal, or by what it does: that is no refusal.
use Rattle.std.proofs.Common.{◌≡◌, ◌↔◌, ℕ, Bool, true, false, if◌then◌else◌, List, [], ◌∷◌, ◌++◌, Option, Some, None, refl, sym, ◌∙◌, ap, subst}
use Rattle.std.specs.Prelude.{◌==◌}
use Rattle.std.specs.List.{AllByRecursion}
use Rattle.nsap.specs.Address.{selector_of}
use Rattle.osi_base.specs.declared.unit.Offered.{Offered}
use Rattle.osi_base.specs.declared.unit.Offered.TheVariants.{Taken as WasTaken, Dropped}
use Rattle.osi_base.specs.declared.unit.Up.{Up}
use Rattle.osi_base.specs.declared.unit.Up.TheVariants.{Unit as Came, Note as Noted}
use Rattle.osi_base.specs.Link.{Link}
use Rattle.osi_base.specs.Calls.{Call, Keeps}
use Rattle.script_journal.specs.declared.cause.Refused.{Refused}
use Rattle.script_journal.specs.declared.cause.Refused.TheVariants as refusals
use Rattle.script_journal.specs.declared.event.Event.{Event}
use Rattle.script_journal.specs.declared.event.Event.TheVariants as events
use Rattle.script_lines.specs.declared.line.Line.{Line}
use Rattle.script_lines.specs.declared.line.Line.TheVariants as lines
use Rattle.net_world.specs.Told.{shown_at, told}
use Rattle.tp4_flow.specs.declared.step.EndEvent.{EndEvent}
use Rattle.tp4_flow.specs.declared.step.Sent.{Sent}
use Rattle.tp4_flow.specs.declared.step.What.{What}
use Rattle.tp4_flow.specs.declared.step.What.TheVariants as whats
use Rattle.tp4_conn.specs.declared.call.CallRefusal.{CallRefusal}
use Rattle.tp4_conn.specs.declared.call.CallRefusal.TheVariants as calls
use Rattle.tp4_conn.specs.declared.call.UserCall.{UserCall}
use Rattle.tp4_conn.specs.declared.call.UserCall.TheVariants as asks
use Rattle.tp4_entity.specs.declared.refusal.EntityRefusal.{EntityRefusal}
use Rattle.tp4_entity.specs.declared.refusal.EntityRefusal.TheVariants as entities
use Rattle.tp4_entity.specs.Entity.{Acted, Entity}
use Rattle.tp4_entity.specs.Step.{user_refusal}
use Rattle.tp4_world.specs.Run.{Acts, Calls, CallsAt, CallsBy, CallsEnd, IsRefused, RunsLine, SendsTpdus, clock_of}
use Rattle.tp4_world.specs.Ended.{has_ended}
use Rattle.tp4_world.specs.Telling.{call_events, drop_events, ends_with, event_for, events_after, told_call, told_refusal}
use Rattle.tp4_world.specs.World.{World, end_numbered, entity_at, latest}
use Rattle.tp4_world.specs.declared.place.EndAt.{EndAt}
use Rattle.law_tp4_lawful.proofs.WorldPlaces.{some_same}
use Rattle.law_tp4_associations.specs.Ended.{end_called}
use Rattle.law_tp4_associations.specs.Laws.{AnswersEnded, CallsAnswerEnded}
use Rattle.law_tp4_associations.proofs.Tests.{calls_tell, tells_what_ended}

-- ---- events that are no refusal

abbrev IsNoRefusal : Event → Type 0
IsNoRefusal (events.No why) = ⊥
IsNoRefusal event = Unit {0}

abbrev AreNoRefusals : List Event → Type 0
AreNoRefusals made = AllByRecursion IsNoRefusal made

none_appended : (xs ys : List Event) → AreNoRefusals xs → AreNoRefusals ys → AreNoRefusals (xs ++ ys)
none_appended [] ys first rest = rest
none_appended (x ∷ xs) ys first rest = (first.0, none_appended xs ys first.1 rest)

unit_none : (shown : Bool) (system : ℕ) (from octets : List ℕ) → AreNoRefusals (if shown then events.Unit system from octets ∷ [] else [])
unit_none true system from octets = (tt, tt)
unit_none false system from octets = tt

told_none : (ups : List (Up (List ℕ))) → AreNoRefusals (told ups)
told_none [] = tt
told_none (Noted note ∷ ups) = (tt, told_none ups)
told_none (Came arrival ∷ ups) =
    none_appended (shown_at arrival.system arrival.unit) (told ups) (unit_none (selector_of arrival.unit.to == 2) arrival.system arrival.unit.from arrival.unit.octets) (told_none ups)

drop_none : (system : ℕ) (answer : Offered) → AreNoRefusals (drop_events system answer)
drop_none system WasTaken = tt
drop_none system (Dropped cause) = (tt, tt)

event_none : (system : ℕ) (own : List ℕ) (number reference : ℕ) (what : What) → IsNoRefusal (event_for system own number reference what)
event_none system own number reference (whats.Incoming from partner calling called options octets) = tt
event_none system own number reference other = tt

events_none : (made : List EndEvent) (ends : List EndAt) (system : ℕ) (own : List ℕ) → AreNoRefusals (events_after ends system own made)
events_none [] ends system own = tt
events_none (one ∷ others) ends system own =
    let next = ends_with ends system one one.what in
    (event_none system own (latest next system one.reference) one.reference one.what, events_none others next system own)

call_none : (number : ℕ) (call : UserCall) → AreNoRefusals (call_events number call)
call_none number (asks.Accept options octets) = tt
call_none number (asks.Window credit) = tt
call_none number other = (tt, tt)

-- ---- refusals

call_other : (why : CallRefusal) → told_call why ≡ Some refusals.Ended → ⊥
call_other (calls.WrongState state) is = cc (some_same (refusals.WrongState state) refusals.Ended is)
call_other calls.EmptyUnit is = cc (some_same refusals.EmptyUnit refusals.Ended is)
call_other calls.TooLong is = cc (some_same refusals.TooLong refusals.Ended is)
call_other calls.NoExpedited is = cc (some_same refusals.NoExpedited refusals.Ended is)
call_other calls.QueueFull is = cc (some_same refusals.QueueFull refusals.Ended is)
call_other calls.NoMemory is = cc is

other_refusal : (why : EntityRefusal) → told_refusal why ≡ Some refusals.Ended → ⊥
other_refusal entities.NoSuchEnd is = cc (some_same refusals.NoSuchEnd refusals.Ended is)
other_refusal (entities.Call why) is = call_other why is

module _ {C : Type 0} (link : C → Link (List ℕ)) (steps : C → Call (List ℕ) → C → Type 0) where
  sent_none : (tpdus : List Sent) (old new : C) (system : ℕ) (own : List ℕ) (made : List Event) → SendsTpdus link steps old system own tpdus made new → AreNoRefusals made
  sent_none [] old new system own made s = subst AreNoRefusals (sym s.0) tt
  sent_none (sent ∷ tpdus) old new system own made s =
      let one = s.3 in
      subst AreNoRefusals (sym s.5)
      (none_appended s.1 s.2 (subst AreNoRefusals (sym one.made_is) (none_appended (drop_events system one.answer) (told one.ups) (drop_none system one.answer) (told_none one.ups)))
      (sent_none tpdus s.0 new system own s.2 s.4))

  acts_none : (old new : World C) (system : ℕ) (own : List ℕ) (acted : Acted) (made : List Event) → Acts link steps old system own acted made new → AreNoRefusals made
  acts_none old new system own acted made a =
      subst AreNoRefusals (sym a.made_is)
      (none_appended (events_after old.ends system own acted.events) a.sent (events_none acted.events old.ends system own) (sent_none acted.tpdus old.carrier a.below system own a.sent a.sends))

  refused_by : (old new : World C) (why : Option Refused) (made : List Event) → made ≡ events.No refusals.Ended ∷ [] → IsRefused link steps old why made new → why ≡ Some refusals.Ended
  refused_by old new None made is s = absurd s
  refused_by old new (Some why) made is s = ap (λ (r : Refused). Some r) (same why (sym s.0 ∙ is))
    where
      same : (one : Refused) → (events.No one ∷ []) ≡ (events.No refusals.Ended ∷ []) → one ≡ refusals.Ended
      same one e = cc e

  module _ (wrap : ℕ → ℕ → ℕ) where
    by_entity : (old new : World C) (number : ℕ) (end : EndAt) (entity : Entity) (call : UserCall) (why : Option EntityRefusal) (made : List Event) → made ≡ events.No refusals.Ended ∷ []
        → CallsBy link steps wrap old number end entity call why made new → ⊥
    by_entity old new number end entity call (Some why) made is s = other_refusal why (refused_by old new (told_refusal why) made is s)
    by_entity old new number end entity call None made is s =
        let none : AreNoRefusals made =
        subst AreNoRefusals (sym s.2) (none_appended (call_events number call) s.0 (call_none number call) (acts_none old new end.system entity.own _ s.0 s.1)) in
        (subst AreNoRefusals is none).0

    -- the answer, by the test
    answered : (old new : World C) (number : ℕ) (end : EndAt) (entity : Entity) (call : UserCall) (ended : Bool) (made : List Event) → CallsEnd link steps wrap old number end entity call ended made new
        → (made ≡ events.No refusals.Ended ∷ []) ↔ (ended ≡ true)
    answered old new number end entity call true made s = (λ _. refl, λ _. s.0)
    answered old new number end entity call false made s =
        (λ is. absurd (by_entity old new number end entity call (user_refusal entity end.reference call) made is s), λ is. absurd (cc is))

    -- the line is a call of that end
    line_call : (titles : List (List ℕ)) (old new : World C) (line : Line) (number : ℕ) (made : List Event) → end_called line ≡ Some number → RunsLine link steps wrap titles old line made new
        → (call : UserCall) × Calls link steps wrap old number call made new
    line_call titles old new (lines.Accept end options octets) number made is s = (asks.Accept options octets, subst (λ (n : ℕ). Calls link steps wrap old n (asks.Accept options octets) made new) (some_same end number is) s)
    line_call titles old new (lines.Refuse end octets) number made is s = (asks.Refuse octets, subst (λ (n : ℕ). Calls link steps wrap old n (asks.Refuse octets) made new) (some_same end number is) s)
    line_call titles old new (lines.Disconnect end octets) number made is s = (asks.Disconnect octets, subst (λ (n : ℕ). Calls link steps wrap old n (asks.Disconnect octets) made new) (some_same end number is) s)
    line_call titles old new (lines.Data end octets) number made is s = (asks.Normal octets, subst (λ (n : ℕ). Calls link steps wrap old n (asks.Normal octets) made new) (some_same end number is) s)
    line_call titles old new (lines.Expedite end octets) number made is s = (asks.Urgent octets, subst (λ (n : ℕ). Calls link steps wrap old n (asks.Urgent octets) made new) (some_same end number is) s)
    line_call titles old new (lines.Window end credit) number made is s = (asks.Window credit, subst (λ (n : ℕ). Calls link steps wrap old n (asks.Window credit) made new) (some_same end number is) s)
    line_call titles old new line number made is s = absurd (cc is)

module _ {C : Type 0} (link : C → Link (List ℕ)) (steps : C → Call (List ℕ) → C → Type 0) (law : (old : C) (call : Call (List ℕ)) (new : C) → steps old call new → Keeps (link old) call (link new)) where
  -- the answer tells what the test tells
  answers : (Since : Type 0) (wrap : ℕ → ℕ → ℕ) (last : World C) (number : ℕ) (place : EndAt) (call : UserCall) (made : List Event) (new : World C) → end_numbered last.ends number ≡ Some place
      → Calls link steps wrap last number call made new
      → ((entity : Entity) → entity_at last.entities place.system ≡ Some entity → (has_ended (clock_of link steps last) last.ends number place entity ≡ true) ↔ Since)
      → (made ≡ events.No refusals.Ended ∷ []) ↔ Since
  answers Since wrap last number place call made new numbered asked tells =
      let s : CallsAt link steps wrap last number call (Some place) made new = subst (λ (end : Option EndAt). CallsAt link steps wrap last number call end made new) numbered asked in
      let answer = answered link steps wrap last new number place s.0 call (has_ended (clock_of link steps last) last.ends number place s.0) made s.2 in
      let test = tells s.0 s.1 in
      (λ is. test.0 (answer.0 is), λ since. answer.1 (test.1 since))

  pub answers_ended : AnswersEnded link steps
  answers_ended wrap titles first script journal last number place line made new none run numbered called runs =
      let asked = line_call link steps wrap titles last new line number made called runs in
      answers _ wrap last number place asked.0 made new numbered asked.1
      (λ entity there. tells_what_ended link steps law wrap titles first script journal last number place entity none run numbered there)

  pub calls_answer : CallsAnswerEnded link steps
  calls_answer wrap first calls journal last number place call made new none run numbered asked =
      answers _ wrap last number place call made new numbered asked (λ entity there. calls_tell link steps law wrap first calls journal last number place entity none run numbered there)
