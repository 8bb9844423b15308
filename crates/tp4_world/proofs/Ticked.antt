-- The due ends of an entity tick one by one, and the entities one after another.
use Rattle.std.proofs.Common.{◌≡◌, ℕ, ◌+◌, Bool, true, false, List, [], ◌∷◌, ◌++◌, drop, slice_get, Option, Some, None, refl, sym, ◌∙◌, ap, subst}
use Rattle.std.specs.Prelude.{is_some}
use Rattle.std.specs.List.{position}
use Rattle.std.specs.Option.{option_map_or}
use Rattle.osi_base.specs.Link.{Link}
use Rattle.osi_base.specs.Calls.{Call}
use Rattle.script_journal.specs.declared.event.Event.{Event}
use Rattle.tp4_flow.specs.Told.{Told}
use Rattle.tp4_entity.specs.Entity.{Entity}
use Rattle.tp4_entity.specs.Step.{DoesSo, dues, first_due, ticking}
use Rattle.tp4_world.proofs.Acting.{acts, nothing}
use Rattle.tp4_world.proofs.Entities.{changed_there, entity_there, with_found}
use Rattle.tp4_world.proofs.Going.{Going, drop_got, going_last, going_next, going_over}
use Rattle.tp4_world.specs.Run.{Acts, NoneDue, OneDue, TicksAll, TicksEntity}
use Rattle.tp4_world.specs.World.{World, entity_at, is_of, with_entity}
use Rattle.tp4_world.specs.declared.place.EndAt.{EndAt}
use Rattle.tp4_world.specs.declared.place.Placed.{Placed}
use Rattle.tp4_world.specs.steps.Parts.{ChangesAt, Follows, Tells, TicksEach, TicksOnce, dues_at, systems_of, world_of}
use Rattle.tp4_world.proofs.Having.{found as some_of}

none_of : {A : Type 0} (o : Option A) → is_some o ≡ false → o ≡ None
none_of None e = refl
none_of (Some x) e = absurd cc

-- an entity of which one end fewer is due
pub fewer_due : (now : ℕ) (placed changed : List Placed) (system place : ℕ) → position (is_of system) placed ≡ Some place
    → ChangesAt place placed changed (λ before after. dues now after + 1 ≡ dues now before) → dues_at now changed system + 1 ≡ dues_at now placed system
fewer_due now placed changed system place found change =
    let was : entity_at placed system ≡ Some change.one.entity = entity_there placed system place change.one found change.at in
    let is : changed ≡ with_entity placed system change.after = change.becomes ∙ sym (changed_there placed system place change.one change.after found change.at) in
    let after : entity_at changed system ≡ Some change.after = ap (λ (ps : List Placed). entity_at ps system) is ∙ with_found placed system change.one.entity change.after was in
    ap (λ (e : Option Entity). option_map_or (dues now) e 0 + 1) after ∙ change.does ∙ ap (λ (e : Option Entity). option_map_or (dues now) e 0) (sym was)

module _ {C : Type 0} (link : C → Link (List ℕ)) (steps : C → Call (List ℕ) → C → Type 0) (wrap : ℕ → ℕ → ℕ) where
  pub once_none : (carrier : C) (placed changed : List Placed) (ends : List EndAt) (system place now : ℕ) (was_due : Bool) (was told : Told) → position (is_of system) placed ≡ Some place
      → (link carrier).clock ≡ now → was_due ≡ false
      → ChangesAt place placed changed (λ before after. (was_due ≡ is_some (first_due now before)) × DoesSo (ticking wrap now before) after was told)
      → TicksOnce link steps wrap system (world_of carrier placed ends) false [] (world_of carrier changed ends)
  once_none carrier placed changed ends system place now was_due was told found clock none change =
      let entity = change.one.entity in
      let due : first_due now entity ≡ None = none_of (first_due now entity) (sym change.does.0 ∙ none) in
      let is : changed ≡ with_entity placed system (ticking wrap now entity).entity =
      change.becomes ∙ sym (changed_there placed system place change.one change.after found change.at) ∙ ap (with_entity placed system) change.does.1.entity_is in (
        entity,
        entity_there placed system place change.one found change.at,
        subst (λ (n : ℕ). first_due n entity ≡ None) (sym clock) due,
        refl,
        subst (λ (n : ℕ). world_of carrier changed ends ≡ world_of carrier (with_entity placed system (ticking wrap n entity).entity) ends) (sym clock) (ap (λ (ps : List Placed). world_of carrier ps ends) is),
      )

  pub once_due : (carrier new : C) (placed changed : List Placed) (ends after : List EndAt) (system place now : ℕ) (own : List ℕ) (was_due : Bool) (was told : Told) (before behind : List Event)
      → position (is_of system) placed ≡ Some place → ((one : Placed) → slice_get placed place ≡ Some one → own ≡ one.entity.own) → (link carrier).clock ≡ now → was_due ≡ true → was ≡ nothing
      → ChangesAt place placed changed (λ entity next. (was_due ≡ is_some (first_due now entity)) × DoesSo (ticking wrap now entity) next was told)
      → Tells before behind (λ made. Follows link steps carrier ends system own told made new after)
      → Tells before behind (λ made. TicksOnce link steps wrap system (world_of carrier placed ends) true made (world_of new changed after))
  once_due carrier new placed changed ends after system place now own was_due was told before behind found owns clock due start change tells =
      let entity = change.one.entity in
      let there = some_of (first_due now entity) (sym change.does.0 ∙ due) in
      record {
        made = tells.made;
        added = tells.added;
        are = (
          entity,
          there.0,
          entity_there placed system place change.one found change.at,
          subst (λ (n : ℕ). first_due n entity ≡ Some there.0) (sym clock) there.1,
          subst (λ (n : ℕ). Acts link steps (world_of carrier placed ends) system entity.own (ticking wrap n entity) tells.made (world_of new changed after)) (sym clock)
              (acts link steps carrier new placed changed ends after system place own (ticking wrap now entity) change.one change.after was told tells.made found change.at change.becomes
              (owns change.one change.at) start change.does.1 tells.are),
        );
      }

  -- ---- the due ends of one entity

  abbrev pub OfEntity : ℕ → World C → List ℕ → List Event → World C → Type 0
  OfEntity system old left made new = TicksEntity link steps wrap system old made new

  pub tick_more : (system : ℕ) (old : World C) (before : List Event) (mid : World C) (events : List Event) (new : World C) (after : List Event)
      → Going (OfEntity system) old [] before mid events [] → Tells events after (λ made. TicksOnce link steps wrap system mid true made new) → Going (OfEntity system) old [] before new after []
  tick_more system old before mid events new after g tells =
      let t = tells.are in
      going_next (OfEntity system) old [] before mid events [] new after tells.made [] g tells.added
      (λ rest last h. OneDue mid (tells.made ++ rest) last t.0 t.1 new tells.made rest t.2 t.3 t.4 h refl)

  pub tick_over : (system : ℕ) (old : World C) (before : List Event) (mid : World C) (events : List Event) (new : World C) (after : List Event)
      → Going (OfEntity system) old [] before mid events [] → Tells events after (λ made. TicksOnce link steps wrap system mid false made new)
      → Tells before after (λ made. TicksEntity link steps wrap system old made new)
  tick_over system old before mid events new after g tells =
      let t = tells.are in
      going_last (OfEntity system) old [] before mid events [] new after tells.made g tells.added (NoneDue mid tells.made new t.0 t.1 t.2 t.3 t.4)

  -- ---- all entities

  pub each_all : (old : World C) (placed : List Placed) (made : List Event) (new : World C) → TicksEach link steps wrap old (systems_of placed) made new → TicksAll link steps wrap old placed made new
  each_all old [] made new h = h
  each_all old (one ∷ placed) made new h = (h.0, h.1, h.2, h.3, each_all h.0 placed h.2 new h.4, h.5)

  pub entity_more : (old : World C) (systems : List ℕ) (before : List Event) (mid : World C) (events : List Event) (place system : ℕ) (new : World C) (after : List Event)
      → Going (TicksEach link steps wrap) old systems before mid events (drop place systems) → slice_get systems place ≡ Some system
      → Tells events after (λ made. TicksEntity link steps wrap system mid made new) → Going (TicksEach link steps wrap) old systems before new after (drop (place + 1) systems)
  entity_more old systems before mid events place system new after g is tells =
      going_next (TicksEach link steps wrap) old systems before mid events (drop place systems) new after tells.made (drop (place + 1) systems) g tells.added
      (λ rest last h. subst (λ (ss : List ℕ). TicksEach link steps wrap mid ss (tells.made ++ rest) last) (sym (drop_got systems place system is)) (new, tells.made, rest, tells.are, h, refl))

  pub all_ticked : (old : World C) (placed : List Placed) (before : List Event) (mid : World C) (events : List Event) (place : ℕ)
      → Going (TicksEach link steps wrap) old (systems_of placed) before mid events (drop place (systems_of placed)) → drop place (systems_of placed) ≡ []
      → Tells before events (λ made. TicksAll link steps wrap old placed made mid)
  all_ticked old placed before mid events place g over =
      let t = going_over (TicksEach link steps wrap) old (systems_of placed) before mid events (drop place (systems_of placed)) g over (refl, refl) in
      record { made = t.made; added = t.added; are = each_all old placed t.made mid t.are }
