-- Whatever happens in a network at once, an end that had left has left still.
use Rattle.std.proofs.Common.{◌≡◌, inl, inr, ℕ, List, Option, Some, refl, sym, ◌∙◌, ap, subst}
use Rattle.osi_base.specs.Link.{Link}
use Rattle.script_journal.specs.declared.event.Event.{Event as JournalEvent}
use Rattle.tp4_number.specs.Number.{whole}
use Rattle.tp4_conn.specs.End.{End, end_of}
use Rattle.tp4_conn.specs.Making.{connected}
use Rattle.tp4_conn.specs.Table.{Event, stepped}
use Rattle.tp4_conn.specs.declared.timers.Timers.{Timers}
use Rattle.tp4_entity.specs.Association.{met}
use Rattle.tp4_entity.specs.Entity.{Acted, Entity, at, end_at, with_end}
use Rattle.tp4_entity.specs.Step.{call_of}
use Rattle.tp4_entity.proofs.Standings.{free_least}
use Rattle.law_tp4_history.specs.Tracks.{Whole}
use Rattle.tp4_world.specs.Telling.{ends_after}
use Rattle.tp4_world.specs.World.{World, end_numbered, entity_at, latest, with_entity}
use Rattle.tp4_world.specs.declared.place.EndAt.{EndAt}
use Rattle.tp4_world.specs.declared.place.Placed.{Placed}
use Rattle.law_tp4_lawful.proofs.Worlds.{Explains}
use Rattle.law_calm_run.proofs.Hall.{Post}
use Rattle.law_recovery_run.specs.Over.{HaveLeft, KeepsLeft}
use Rattle.law_recovery_run.proofs.Delivering.{HasActed}
use Rattle.law_recovery.proofs.Deeds.{AreSame, Begins, IsOver}
use Rattle.law_recovery.proofs.Outlasting.{Kind, New, Row, Same, end_keeps, left_on, met_kind, row_stays}

-- two ends that had left have left
pub both_keep : {C : Type 0} (old new : World C) (x y : ℕ) → KeepsLeft old new → HaveLeft old x y → HaveLeft new x y
both_keep {C} old new x y keeps left = (end_keeps old new x keeps left.0, end_keeps old new y keeps left.1)

-- no entity does anything
pub same_keeps : {C : Type 0} (old new : World C) → AreSame old new → KeepsLeft old new
same_keeps {C} old new same x s r h = record {
  made = ap (λ (es : List EndAt). end_numbered es x) same.ends ∙ h.made;
  left = λ entity e at stands number.
      h.left entity e (sym (ap (λ (ps : List Placed). entity_at ps s) same.entities) ∙ at) stands (sym (ap (λ (es : List EndAt). latest es s r) same.ends) ∙ number);
}

-- no end of an entity is due
pub over_keeps : {C : Type 0} (link : C → Link (List ℕ)) (old new : World C) (made : List JournalEvent) (posts later : List Post) → IsOver link old new made posts later → KeepsLeft old new
over_keeps {C} link old new made posts later d = left_on old new (link old.carrier).clock d.system d.entity (at (link old.carrier).clock d.entity) d.there d.entities (Same refl d.ends)

-- a new end is made
pub begins_keeps : {C : Type 0} (link : C → Link (List ℕ)) (old new : World C) (made : List JournalEvent) (posts later : List Post) → Begins link old new made posts later → KeepsLeft old new
begins_keeps {C} link old new made posts later d =
    let place : Option End = Some (end_of (connected (link old.carrier).clock (call_of d.entity d.reference d.request))) in
    left_on old new (link old.carrier).clock d.system d.entity (with_end (at (link old.carrier).clock d.entity) d.reference place) d.there d.entities
    (New d.reference place (free_least (link old.carrier).clock d.reference d.entity d.free).least refl d.ends)

module _ {C : Type 0} (link : C → Link (List ℕ)) (names : List (List ℕ)) (timers : Timers) (w : Whole) (journal : List JournalEvent) (old : World C) (explains : Explains link names timers w journal old) (new : World C) where
  -- an end that stands does a row
  pub row_keeps : (system : ℕ) (entity : Entity) → entity_at old.entities system ≡ Some entity → (reference : ℕ) (o : End) (event : Event) (place : Option End) → end_at entity reference ≡ Some o
      → ((e : End) → place ≡ Some e → e ≡ end_of (stepped whole (link old.carrier).clock o event))
      → new.entities ≡ with_entity old.entities system (with_end (at (link old.carrier).clock entity) reference place)
      → new.ends ≡ ends_after old.ends system (stepped whole (link old.carrier).clock o event).events → KeepsLeft old new
  row_keeps system entity there reference o event place stands place_is entities ends =
      left_on old new (link old.carrier).clock system entity (with_end (at (link old.carrier).clock entity) reference place) there entities
      (Row reference o event place stands place_is refl (ends ∙ row_stays link names timers w journal old explains system entity there reference o event stands))

  -- an entity hears what waits
  pub heard_keeps : (post : Post) (made : List JournalEvent) → HasActed link old new post made → KeepsLeft old new
  heard_keeps post made a =
      let now : ℕ = (link old.carrier).clock in
      elim a.heard.any [
        | inl h ↦
            left_on old new now a.system a.entity (met whole now (at now a.entity) a.sender.own (h.0, h.1)).entity a.there (a.entities ∙ ap (λ (z : Acted). with_entity old.entities a.system z.entity) h.2)
            (subst (λ (es : List EndAt). Kind now old.ends es a.system a.entity (met whole now (at now a.entity) a.sender.own (h.0, h.1)).entity) (sym (a.ends ∙ ap (λ (z : Acted). ends_after old.ends a.system z.events) h.2))
            (met_kind link names timers w journal old explains a.system a.entity a.there a.sender.own h.0 h.1))
        | inr (inl bad) ↦
            left_on old new now a.system a.entity (at now a.entity) a.there (a.entities ∙ ap (λ (z : Acted). with_entity old.entities a.system z.entity) bad.2)
            (Same refl (a.ends ∙ ap (λ (z : Acted). ends_after old.ends a.system z.events) bad.2))
        | inr (inr silent) ↦
            left_on old new now a.system a.entity (at now a.entity) a.there (a.entities ∙ ap (λ (z : Acted). with_entity old.entities a.system z.entity) silent)
            (Same refl (a.ends ∙ ap (λ (z : Acted). ends_after old.ends a.system z.events) silent))
      ]
