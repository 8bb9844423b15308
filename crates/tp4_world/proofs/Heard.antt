-- What came up is told, and the units for transport among it are all that entities hear.
use Rattle.std.proofs.Common.{◌≡◌, ℕ, Bool, true, false, List, [], ◌∷◌, ◌++◌, Option, Some, None, nat_eq, refl, sym, ◌∙◌, ap, subst, append_assoc, slice_get}
use Rattle.std.specs.Prelude.{◌==◌, ◌&&◌}
use Rattle.std.specs.Cmp.Lexicographic.{pointwise}
use Rattle.std.specs.List.{position}
use Rattle.nsap.specs.Address.{selector_of}
use Rattle.osi_base.specs.declared.unit.Arrival.{Arrival}
use Rattle.osi_base.specs.declared.unit.Up.{Up}
use Rattle.osi_base.specs.declared.unit.Up.TheVariants.{Unit as Came, Note as Noted}
use Rattle.osi_base.specs.Link.{Link}
use Rattle.osi_base.specs.Calls.{Call, NextUp, TakesUp}
use Rattle.osi_base.specs.Gathering.{Gathers}
use Rattle.osi_base.proofs.Gatherings.{Gathering, gathered, gathering_next}
use Rattle.osi_base.proofs.Standings.{stands_same}
use Rattle.std.proofs.lemmas.List.{append-nil}
use Rattle.script_journal.specs.declared.event.Event.{Event}
use Rattle.net_world.specs.Told.{told, up_events}
use Rattle.tp4_flow.specs.Told.{Told}
use Rattle.tp4_entity.specs.Entity.{Entity, Acted}
use Rattle.tp4_entity.specs.Step.{DoesSo}
use Rattle.tp4_entity.specs.Unit.{TakesUnit}
use Rattle.tp4_world.proofs.Acting.{acts, nothing}
use Rattle.tp4_world.proofs.Entities.{entity_there}
use Rattle.tp4_world.specs.Run.{Arrives, Hears, HearsAll, HearsIf, is_for}
use Rattle.tp4_world.specs.World.{World, entity_at, is_of}
use Rattle.tp4_world.specs.declared.place.EndAt.{EndAt}
use Rattle.tp4_world.specs.declared.place.Placed.{Placed}
use Rattle.tp4_world.specs.steps.Parts.{ChangesAt, Follows, HearsEach, HearsWaiting, TakesUnits, Tells, for_transport, listed_if, then_for_transport, world_of}

-- ---- what came up

listed_front : {A : Type 0} (fits : Bool) (units : List A) (one : A) (others : List A) → (units ++ listed_if fits one []) ++ others ≡ units ++ listed_if fits one others
listed_front true units one others = append_assoc units (one ∷ []) others
listed_front false units one others = append_assoc units [] others

pub sorted_front : (units : List (Arrival (List ℕ))) (up : Up (List ℕ)) (ups : List (Up (List ℕ))) → then_for_transport units up ++ for_transport ups ≡ units ++ for_transport (up ∷ ups)
sorted_front units (Noted note) ups = refl
sorted_front units (Came arrival) ups = listed_front (selector_of arrival.unit.to == 1) units arrival (for_transport ups)

pub told_front : (events : List Event) (up : Up (List ℕ)) (ups : List (Up (List ℕ))) → (events ++ up_events up) ++ told ups ≡ events ++ told (up ∷ ups)
told_front events up ups = append_assoc events (up_events up) (told ups)

listed_append : {A : Type 0} (fits : Bool) (one : A) (units others : List A) → listed_if fits one (units ++ others) ≡ listed_if fits one units ++ others
listed_append true one units others = refl
listed_append false one units others = refl

sorted_append : (ups more : List (Up (List ℕ))) → for_transport (ups ++ more) ≡ for_transport ups ++ for_transport more
sorted_append [] more = refl
sorted_append (Noted note ∷ ups) more = sorted_append ups more
sorted_append (Came arrival ∷ ups) more =
    ap (listed_if (selector_of arrival.unit.to == 1) arrival) (sorted_append ups more) ∙ listed_append (selector_of arrival.unit.to == 1) arrival (for_transport ups) (for_transport more)

told_append : (ups more : List (Up (List ℕ))) → told (ups ++ more) ≡ told ups ++ told more
told_append [] more = refl
told_append (up ∷ ups) more = ap (λ (es : List Event). up_events up ++ es) (told_append ups more) ∙ sym (append_assoc (up_events up) (told ups) (told more))

-- so far these were taken up and told
pub record TakingUnits {C : Type 0} (link : C → Link (List ℕ)) (steps : C → Call (List ℕ) → C → Type 0) (old : C) (before : List Event) (new : C) (units : List (Arrival (List ℕ))) (after : List Event)
    : Type 0 where
  pub ups : List (Up (List ℕ))
  pub gathering : Gathering link steps old ups new
  pub units_are : units ≡ for_transport ups
  pub told_are : after ≡ before ++ told ups

module _ {C : Type 0} (link : C → Link (List ℕ)) (steps : C → Call (List ℕ) → C → Type 0) where
  gathering_none : (old : C) → Gathering link steps old [] old
  gathering_none old = record { waited = refl; stands = stands_same (link old); grows = λ entry h. h; chain = refl }

  pub taking_none : (old : C) (before : List Event) (units : List (Arrival (List ℕ))) → units ≡ [] → TakingUnits link steps old before old units before
  taking_none old before units none = record { ups = []; gathering = gathering_none old; units_are = none; told_are = sym (append-nil before) }

  pub taking_next : (old : C) (before : List Event) (mid new : C) (units then : List (Arrival (List ℕ))) (events after : List Event) (up : Up (List ℕ))
      → TakingUnits link steps old before mid units events → steps mid (NextUp (Some up)) new → TakesUp (link mid) (Some up) (link new)
      → then ≡ then_for_transport units up → after ≡ events ++ up_events up → TakingUnits link steps old before new then after
  taking_next old before mid new units then events after up h step takes sorted added = record {
    ups = h.ups ++ up ∷ [];
    gathering = gathering_next link steps old h.ups mid new up h.gathering step takes;
    units_are = sorted ∙ sym (append-nil (then_for_transport units up)) ∙ sorted_front units up [] ∙ ap (λ (us : List (Arrival (List ℕ))). us ++ for_transport (up ∷ [])) h.units_are
        ∙ sym (sorted_append h.ups (up ∷ []));
    told_are = added ∙ sym (append-nil (events ++ up_events up)) ∙ told_front events up [] ∙ ap (λ (es : List Event). es ++ told (up ∷ [])) h.told_are
        ∙ append_assoc before (told h.ups) (told (up ∷ [])) ∙ ap (λ (es : List Event). before ++ es) (sym (told_append h.ups (up ∷ [])));
  }

  pub taken_all : (old : C) (before : List Event) (mid new : C) (units : List (Arrival (List ℕ))) (events : List Event) → TakingUnits link steps old before mid units events
      → steps mid (NextUp None) new → TakesUp (link mid) None (link new) → TakesUnits link steps old before new units events
  taken_all old before mid new units events h step takes = record {
    ups = h.ups;
    gathers = gathered link steps old h.ups mid new h.gathering step takes;
    units_are = h.units_are;
    told_are = h.told_are;
  }

module _ {C : Type 0} (link : C → Link (List ℕ)) (steps : C → Call (List ℕ) → C → Type 0) (wrap : ℕ → ℕ → ℕ) where
  -- ---- one unit

  pub hears_none : (old : World C) (arrival : Arrival (List ℕ)) → entity_at old.entities arrival.system ≡ None → Hears link steps wrap old arrival [] old
  hears_none old arrival none =
      subst (λ (o : Option Entity). HearsIf link steps wrap old arrival o (is_for link steps wrap arrival.unit.to o) [] old) (sym none) (refl, refl)

  pub hears_other : (old : World C) (arrival : Arrival (List ℕ)) (o : Option Entity) → is_for link steps wrap arrival.unit.to o ≡ false → HearsIf link steps wrap old arrival o (is_for link steps wrap arrival.unit.to o) [] old
  hears_other old arrival None fits = (refl, refl)
  hears_other old arrival (Some entity) fits = subst (λ (b : Bool). HearsIf link steps wrap old arrival (Some entity) b [] old) (sym fits) (refl, refl)

  pub hears_unfit : (carrier : C) (placed changed : List Placed) (ends : List EndAt) (arrival : Arrival (List ℕ)) (place : ℕ) (own : List ℕ) (one : Placed) → position (is_of arrival.system) placed ≡ Some place
      → slice_get placed place ≡ Some one → own ≡ one.entity.own → (selector_of arrival.unit.to == 1 && pointwise nat_eq own arrival.unit.to) ≡ false → changed ≡ placed
      → Hears link steps wrap (world_of carrier placed ends) arrival [] (world_of carrier changed ends)
  hears_unfit carrier placed changed ends arrival place own one found at is fits same =
      subst (λ (ps : List Placed). Hears link steps wrap (world_of carrier placed ends) arrival [] (world_of carrier ps ends)) (sym same)
      (hears_other (world_of carrier placed ends) arrival (entity_at placed arrival.system)
      (ap (is_for link steps wrap arrival.unit.to) (entity_there placed arrival.system place one found at)
      ∙ ap (λ (o : List ℕ). selector_of arrival.unit.to == 1 && pointwise nat_eq o arrival.unit.to) (sym is) ∙ fits))

  hears_entity : (old new : World C) (arrival : Arrival (List ℕ)) (entity : Entity) (made : List Event) → entity_at old.entities arrival.system ≡ Some entity
      → (selector_of arrival.unit.to == 1 && pointwise nat_eq entity.own arrival.unit.to) ≡ true → HearsIf link steps wrap old arrival (Some entity) true made new → Hears link steps wrap old arrival made new
  hears_entity old new arrival entity made is fits h =
      subst (λ (o : Option Entity). HearsIf link steps wrap old arrival o (is_for link steps wrap arrival.unit.to o) made new) (sym is)
      (subst (λ (b : Bool). HearsIf link steps wrap old arrival (Some entity) b made new) (sym fits) h)

  pub hears_there : (carrier new : C) (placed changed : List Placed) (ends after : List EndAt) (arrival : Arrival (List ℕ)) (place now : ℕ) (own : List ℕ) (was told : Told) (before behind : List Event)
      → position (is_of arrival.system) placed ≡ Some place → ((one : Placed) → slice_get placed place ≡ Some one → own ≡ one.entity.own)
      → (selector_of arrival.unit.to == 1 && pointwise nat_eq own arrival.unit.to) ≡ true → (link carrier).clock ≡ now → was ≡ nothing
      → ChangesAt place placed changed (λ entity next. (acted : Acted) × TakesUnit wrap now entity arrival.unit.from arrival.unit.octets acted × DoesSo acted next was told)
      → Tells before behind (λ made. Follows link steps carrier ends arrival.system own told made new after)
      → Tells before behind (λ made. Hears link steps wrap (world_of carrier placed ends) arrival made (world_of new changed after))
  hears_there carrier new placed changed ends after arrival place now own was told before behind found owns fits clock start change tells =
      let one = change.one in
      let is : own ≡ one.entity.own = owns one change.at in
      let does = change.does in
      record {
        made = tells.made;
        added = tells.added;
        are = hears_entity (world_of carrier placed ends) (world_of new changed after) arrival one.entity tells.made (entity_there placed arrival.system place one found change.at)
            (ap (λ (o : List ℕ). selector_of arrival.unit.to == 1 && pointwise nat_eq o arrival.unit.to) (sym is) ∙ fits) (
              does.0,
              subst (λ (n : ℕ). TakesUnit wrap n one.entity arrival.unit.from arrival.unit.octets does.0) (sym clock) does.1,
              acts link steps carrier new placed changed ends after arrival.system place own does.0 one change.after was told tells.made found change.at change.becomes is start does.2 tells.are,
            );
      }

  -- ---- all units

  each_of : (old : World C) (arrival : Arrival (List ℕ)) (ups : List (Up (List ℕ))) (made : List Event) (new : World C) (fits : Bool) → (selector_of arrival.unit.to == 1) ≡ fits
      → ((mid : World C) (rest : List Event) → HearsEach link steps wrap mid (for_transport ups) rest new → HearsAll link steps wrap mid ups rest new)
      → HearsEach link steps wrap old (listed_if fits arrival (for_transport ups)) made new → HearsAll link steps wrap old (Came arrival ∷ ups) made new
  each_of old arrival ups made new true fits others h = (h.0, h.1, h.2, h.3, others h.0 h.2 h.4, h.5)
  each_of old arrival ups made new false fits others h = (
    old,
    [],
    made,
    hears_other old arrival (entity_at old.entities arrival.system) (unfit (entity_at old.entities arrival.system)),
    others old made h,
    refl,
  )
    where
      unfit : (o : Option Entity) → is_for link steps wrap arrival.unit.to o ≡ false
      unfit None = refl
      unfit (Some entity) = ap (λ (b : Bool). b && pointwise nat_eq entity.own arrival.unit.to) fits

  each_all : (old : World C) (ups : List (Up (List ℕ))) (made : List Event) (new : World C) → HearsEach link steps wrap old (for_transport ups) made new → HearsAll link steps wrap old ups made new
  each_all old [] made new h = h
  each_all old (Noted note ∷ ups) made new h = each_all old ups made new h
  each_all old (Came arrival ∷ ups) made new h =
      each_of old arrival ups made new (selector_of arrival.unit.to == 1) refl (λ mid rest k. each_all mid ups rest new k) h

  pub heard_waiting : (carrier below new : C) (placed changed : List Placed) (ends after : List EndAt) (ups : List (Up (List ℕ))) (units : List (Arrival (List ℕ))) (before mid behind : List Event)
      → Gathers link steps carrier ups below → units ≡ for_transport ups → mid ≡ before ++ told ups
      → Tells mid behind (λ made. HearsEach link steps wrap (world_of below placed ends) units made (world_of new changed after))
      → Tells before behind (λ made. HearsWaiting link steps wrap (world_of carrier placed ends) made (world_of new changed after))
  heard_waiting carrier below new placed changed ends after ups units before mid behind gathers are added tells = record {
    made = told ups ++ tells.made;
    added = tells.added ∙ ap (λ (xs : List Event). xs ++ tells.made) added ∙ append_assoc before (told ups) tells.made;
    are = record {
      ups = ups;
      below = below;
      later = tells.made;
      gathers = gathers;
      hears = each_all (world_of below placed ends) ups tells.made (world_of new changed after)
          (subst (λ (us : List (Arrival (List ℕ))). HearsEach link steps wrap (world_of below placed ends) us tells.made (world_of new changed after)) are tells.are);
      made_is = refl;
    };
  }

  -- a call of the carrier, its own line, and what waits then
  pub arrives : (carrier called new : C) (placed changed : List Placed) (ends after : List EndAt) (call : Call (List ℕ)) (own : Event) (before mid behind : List Event)
      → steps carrier call called → mid ≡ before ++ own ∷ [] → Tells mid behind (λ made. HearsWaiting link steps wrap (world_of called placed ends) made (world_of new changed after))
      → Tells before behind (λ made. Arrives link steps wrap (world_of carrier placed ends) call own made (world_of new changed after))
  arrives carrier called new placed changed ends after call own before mid behind step added tells = record {
    made = own ∷ tells.made;
    added = tells.added ∙ ap (λ (xs : List Event). xs ++ tells.made) added ∙ append_assoc before (own ∷ []) tells.made;
    are = record {
      ups = tells.are.ups;
      below = tells.are.below;
      later = tells.are.later;
      passes = record { called = called; steps_to = step; gathers = tells.are.gathers };
      hears = tells.are.hears;
      made_is = ap (λ (xs : List Event). own ∷ xs) tells.are.made_is;
    };
  }

  -- told from nothing on
  pub all_made : (before after : List Event) (Made : List Event → Type 0) → before ≡ [] → Tells before after Made → Made after
  all_made before after Made none tells = subst Made (sym (tells.added ∙ ap (λ (xs : List Event). xs ++ tells.made) none)) tells.are
