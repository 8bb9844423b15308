-- What the lines of a network tell of a pair: where more lines come before or behind, the same is told; and all that a tick tells stands at that tick.
use Rattle.std.proofs.Common.{◌≡◌, inl, inr, ℕ, ◌+◌, Bool, true, false, List, [], ◌∷◌, ◌++◌, refl, sym, ◌∙◌, ap, subst, arith, append_assoc}
use Rattle.std.specs.Prelude.{◌==◌, if◌then◌else◌, Contains}
use Rattle.std.specs.List.{AllByRecursion}
use Rattle.std.proofs.lemmas.List.{append_cancel_left}
use Rattle.std.proofs.lemmas.List.Elements.{Contains-append_left, Contains-append_right}
use Rattle.nsap.specs.Address.{selector_of}
use Rattle.osi_base.specs.Calls.{Call}
use Rattle.osi_base.specs.Link.{Link}
use Rattle.osi_base.specs.declared.unit.Offered.{Offered}
use Rattle.osi_base.specs.declared.unit.Offered.TheVariants.{Taken as WasTaken, Dropped}
use Rattle.osi_base.specs.declared.unit.Up.{Up}
use Rattle.osi_base.specs.declared.unit.Up.TheVariants.{Unit as Came, Note as Noted}
use Rattle.osi_base.proofs.Members.{all_both}
use Rattle.script_journal.specs.RawLawful.{clock_from, tick_after}
use Rattle.script_journal.specs.declared.event.Event.{Event}
use Rattle.script_journal.specs.declared.event.Event.TheVariants as events
use Rattle.net_world.specs.Told.{shown_at, told}
use Rattle.net_world.proofs.Journals.{clock_from-append}
use Rattle.tpdu.specs.declared.service.EndTold.TheVariants.{Gone}
use Rattle.tp4_number.specs.Number.{whole}
use Rattle.tp4_flow.specs.declared.step.EndEvent.{EndEvent}
use Rattle.tp4_flow.specs.declared.step.Sent.{Sent}
use Rattle.tp4_flow.specs.declared.step.What.{What}
use Rattle.tp4_flow.specs.declared.step.What.TheVariants as whats
use Rattle.tp4_conn.specs.declared.call.UserCall.{UserCall}
use Rattle.tp4_conn.specs.declared.call.UserCall.TheVariants as asks
use Rattle.law_tp4_pair.specs.Pair.{Asks_called, Asks_calling, Clock, Happening, Leads, Pair, next as next_pair}
use Rattle.tp4_world.specs.Run.{NoneDue, OneDue, SendsTpdus, Ticks, TicksAll, TicksEntity}
use Rattle.tp4_world.specs.Telling.{call_events, drop_events, ends_with, event_for, events_after}
use Rattle.tp4_world.specs.World.{World, latest}
use Rattle.tp4_world.specs.declared.place.EndAt.{EndAt}
use Rattle.tp4_world.specs.declared.place.Placed.{Placed}
use Rattle.law_calm_run.proofs.Queueing.{all_parts}
use Rattle.law_recovery_run.specs.Service.{HappensAt}
use Rattle.law_recovery_run.specs.Settling.{IsHandedOver}
use Rattle.law_recovery.specs.Moving.{AreTold, IsTold}

-- ---- more lines

contains_all : (late more es : List Event) → ((e : Event) → Contains late e → Contains more e) → AllByRecursion (Contains late) es → AllByRecursion (Contains more) es
contains_all late more [] each all = tt
contains_all late more (e ∷ es) each all = (each e all.0, contains_all late more es each all.1)

happens_on : (early late more : List Event) (tick : ℕ) (event : Event) → HappensAt early late tick event → HappensAt early (late ++ more) tick event
happens_on early late more tick event h = record {
  before = h.before;
  after = h.after ++ more;
  late_is = ap (λ (es : List Event). es ++ more) h.late_is ∙ append_assoc h.before (event ∷ h.after) more;
  tick_is = h.tick_is;
}

happens_behind : (early late more : List Event) (tick : ℕ) (event : Event) → HappensAt (early ++ late) more tick event → HappensAt early (late ++ more) tick event
happens_behind early late more tick event h = record {
  before = late ++ h.before;
  after = h.after;
  late_is = ap (λ (es : List Event). late ++ es) h.late_is ∙ sym (append_assoc late h.before (event ∷ h.after));
  tick_is = ap tick_after (sym (append_assoc early late h.before)) ∙ h.tick_is;
}

module _ (x y : ℕ) where
  one_on : (early late more : List Event) (p : Pair) (happening : Happening) → IsTold early late x y p happening → IsTold early (late ++ more) x y p happening
  one_on early late more p (Asks_calling call) all = contains_all late (late ++ more) (call_events x call) (λ e has. Contains-append_left late more e has) all
  one_on early late more p (Asks_called call) all = contains_all late (late ++ more) (call_events y call) (λ e has. Contains-append_left late more e has) all
  one_on early late more p (Clock calling called) both = (
    (λ ticks cause is. happens_on early late more (p.clock + 1) (events.End x (Gone cause [])) (both.0 ticks cause is)),
    λ ticks cause is. happens_on early late more (p.clock + 1) (events.End y (Gone cause [])) (both.1 ticks cause is),
  )
  one_on early late more p other is = tt

  one_behind : (early late more : List Event) (p : Pair) (happening : Happening) → IsTold (early ++ late) more x y p happening → IsTold early (late ++ more) x y p happening
  one_behind early late more p (Asks_calling call) all = contains_all more (late ++ more) (call_events x call) (λ e has. Contains-append_right late more e has) all
  one_behind early late more p (Asks_called call) all = contains_all more (late ++ more) (call_events y call) (λ e has. Contains-append_right late more e has) all
  one_behind early late more p (Clock calling called) both = (
    (λ ticks cause is. happens_behind early late more (p.clock + 1) (events.End x (Gone cause [])) (both.0 ticks cause is)),
    λ ticks cause is. happens_behind early late more (p.clock + 1) (events.End y (Gone cause [])) (both.1 ticks cause is),
  )
  one_behind early late more p other is = tt

  pub told_on : (early late more : List Event) (p : Pair) (happenings : List Happening) → AreTold early late x y p happenings → AreTold early (late ++ more) x y p happenings
  told_on early late more p [] all = tt
  told_on early late more p (happening ∷ happenings) all = (one_on early late more p happening all.0, told_on early late more (next_pair p happening) happenings all.1)

  told_behind : (early late more : List Event) (p : Pair) (happenings : List Happening) → AreTold (early ++ late) more x y p happenings → AreTold early (late ++ more) x y p happenings
  told_behind early late more p [] all = tt
  told_behind early late more p (happening ∷ happenings) all = (one_behind early late more p happening all.0, told_behind early late more (next_pair p happening) happenings all.1)

  -- what the first lines tell, and then the others
  pub told_then : (early late more : List Event) (p mid : Pair) (first others : List Happening) → Leads p first mid → AreTold early late x y p first → AreTold (early ++ late) more x y mid others
      → AreTold early (late ++ more) x y p (first ++ others)
  told_then early late more p mid [] others leads one two = subst (λ (q : Pair). AreTold early (late ++ more) x y q others) leads (told_behind early late more mid others two)
  told_then early late more p mid (happening ∷ first) others leads one two =
      (one_on early late more p happening one.0, told_then early late more (next_pair p happening) mid first others leads.1 one.1 two)

  -- of what is handed over nothing need be told
  pub handed_told : (early late : List Event) (p : Pair) (happenings : List Happening) → AllByRecursion IsHandedOver happenings → AreTold early late x y p happenings
  handed_told early late p [] all = tt
  handed_told early late p (happening ∷ happenings) all = (
    elim all.0 [ inl is ↦ subst (IsTold early late x y p) (sym is) tt | inr is ↦ subst (IsTold early late x y p) (sym is) tt ],
    handed_told early late (next_pair p happening) happenings all.1,
  )

-- ---- a call

in_front : (event : Event) (rest : List Event) → Contains (event ∷ rest) event
in_front event rest = (0, omega arith, refl)

first_in : (number : ℕ) (call : UserCall) (rest : List Event) → AllByRecursion (Contains (call_events number call ++ rest)) (call_events number call)
first_in number (asks.Refuse octets) rest = (in_front (events.Refuse number octets) rest, tt)
first_in number (asks.Normal octets) rest = (in_front (events.Data number octets) rest, tt)
first_in number (asks.Urgent octets) rest = (in_front (events.Expedite number octets) rest, tt)
first_in number (asks.Disconnect octets) rest = (in_front (events.Disconnect number octets) rest, tt)
first_in number other rest = tt

pub call_told : (made : List Event) (number n : ℕ) (call : UserCall) (rest : List Event) → made ≡ call_events number call ++ rest → number ≡ n → AllByRecursion (Contains made) (call_events n call)
call_told made number n call rest is same =
    subst (λ (k : ℕ). AllByRecursion (Contains made) (call_events k call)) same
    (subst (λ (es : List Event). AllByRecursion (Contains es) (call_events number call)) (sym is) (first_in number call rest))

-- ---- a tick

-- no tick passes by it
abbrev IsNoTick : Event → Type 0
IsNoTick (events.Tick tick) = ⊥
IsNoTick event = Prim.Unit {0}

clock_still : (now : ℕ) (es : List Event) → AllByRecursion IsNoTick es → clock_from now es ≡ now
clock_still now [] all = refl
clock_still now (events.Tick tick ∷ es) all = absurd all.0
clock_still now (event ∷ es) all = clock_still now es all.1

shown_no : (raw : Bool) (system : ℕ) (from octets : List ℕ) → AllByRecursion IsNoTick (if raw then events.Unit system from octets ∷ [] else [])
shown_no true system from octets = (tt, tt)
shown_no false system from octets = tt

told_no : (ups : List (Up (List ℕ))) → AllByRecursion IsNoTick (told ups)
told_no [] = tt
told_no (Noted note ∷ ups) = (tt, told_no ups)
told_no (Came arrival ∷ ups) =
    all_both IsNoTick (shown_at arrival.system arrival.unit) (told ups) (shown_no (selector_of arrival.unit.to == 2) arrival.system arrival.unit.from arrival.unit.octets) (told_no ups)

what_no : (system : ℕ) (own : List ℕ) (number reference : ℕ) (what : What) → IsNoTick (event_for system own number reference what)
what_no system own number reference (whats.Incoming from partner calling called options octets) = tt
what_no system own number reference other = tt

ends_no : (all : List EndEvent) (ends : List EndAt) (system : ℕ) (own : List ℕ) → AllByRecursion IsNoTick (events_after ends system own all)
ends_no [] ends system own = tt
ends_no (one ∷ others) ends system own =
    let next = ends_with ends system one one.what in
    (what_no system own (latest next system one.reference) one.reference one.what, ends_no others next system own)

drop_no : (system : ℕ) (answer : Offered) → AllByRecursion IsNoTick (drop_events system answer)
drop_no system WasTaken = tt
drop_no system (Dropped cause) = (tt, tt)

-- both parts are
no_both : (made here rest : List Event) → made ≡ here ++ rest → AllByRecursion IsNoTick here → AllByRecursion IsNoTick rest → AllByRecursion IsNoTick made
no_both made here rest is one two = subst (AllByRecursion IsNoTick) (sym is) (all_both IsNoTick here rest one two)

module _ {C : Type 0} (link : C → Link (List ℕ)) (steps : C → Call (List ℕ) → C → Type 0) where
  sends_no : (sents : List Sent) (old : C) (system : ℕ) (own : List ℕ) (made : List Event) (new : C) → SendsTpdus link steps old system own sents made new → AllByRecursion IsNoTick made
  sends_no [] old system own made new step = subst (AllByRecursion IsNoTick) (sym step.0) tt
  sends_no (sent ∷ others) old system own made new step =
      no_both made step.1 step.2 step.5
      (no_both step.1 (drop_events system step.3.answer) (told step.3.ups) step.3.made_is (drop_no system step.3.answer) (told_no step.3.ups))
      (sends_no others step.0 system own step.2 new step.4)

  entity_no : (system : ℕ) (old : World C) (made : List Event) (new : World C) → TicksEntity link steps whole system old made new → AllByRecursion IsNoTick made
  entity_no system old made new (NoneDue o m n entity there_it none made_is becomes) = subst (AllByRecursion IsNoTick) (sym made_is) tt
  entity_no system old made new (OneDue o m n entity reference mid here rest there_it due_at acts more made_is) =
      no_both made here rest made_is
      (no_both here (events_after old.ends system entity.own _) acts.sent acts.made_is (ends_no _ old.ends system entity.own) (sends_no _ old.carrier system entity.own acts.sent acts.below acts.sends))
      (entity_no system mid rest new more)

  all_no : (placed : List Placed) (old : World C) (made : List Event) (new : World C) → TicksAll link steps whole old placed made new → AllByRecursion IsNoTick made
  all_no [] old made new step = subst (AllByRecursion IsNoTick) (sym step.0) tt
  all_no (one ∷ placed) old made new step = no_both made step.1 step.2 step.5 (entity_no one.system old step.1 step.0 step.3) (all_no placed step.0 step.2 new step.4)

  -- what stands behind the line of the tick stands at that tick
  pub happens_then : (early made : List Event) (old new : World C) (step : Ticks link steps whole old made new) (journal before after : List Event) (event : Event) → journal ≡ early ++ made
      → journal ≡ (early ++ events.Tick ((link old.carrier).clock + 1) ∷ []) ++ (before ++ event ∷ after) → HappensAt early made ((link old.carrier).clock + 1) event
  happens_then early made old new step journal before after event one two = record {
    before = first ∷ before;
    after = after;
    late_is = step.made_is ∙ ap (λ (es : List Event). first ∷ es) lines_are;
    tick_is = clock_from-append 0 early (first ∷ before) ∙ clock_still ((link old.carrier).clock + 1) before (all_parts IsNoTick before (event ∷ after) (subst (AllByRecursion IsNoTick) lines_are none)).0;
  }
    where
      first : Event
      first = events.Tick ((link old.carrier).clock + 1)

      lines : List Event
      lines = told step.ups ++ step.later

      none : AllByRecursion IsNoTick lines
      none = all_both IsNoTick (told step.ups) step.later (told_no step.ups) (all_no old.entities (record old { carrier = step.below }) step.later new step.all)

      lines_are : lines ≡ before ++ event ∷ after
      lines_are =
          append_cancel_left (early ++ first ∷ []) lines (before ++ event ∷ after)
          (append_assoc early (first ∷ []) lines ∙ ap (λ (es : List Event). early ++ es) (sym step.made_is) ∙ sym one ∙ two)
