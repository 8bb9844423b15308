-- No step of a network begins an entity again: where none ever began again, none is silent.
use Rattle.std.proofs.Common.{◌≡◌, ℕ, ◌+◌, false, List, Some, None, refl, sym, ◌∙◌, ap, subst, inl, inr}
use Rattle.script_journal.specs.declared.event.Event.{Event}
use Rattle.tp4_conn.specs.End.{frozen_for}
use Rattle.tp4_number.specs.Number.{whole}
use Rattle.tp4_entity.specs.Entity.{Entity, at}
use Rattle.tp4_entity.specs.Silence.{is_silent, is_within}
use Rattle.tp4_entity.specs.Step.{calling, connecting, ticking}
use Rattle.tp4_entity.proofs.Restarts.{calling_same, connecting_same, ticking_same}
use Rattle.tp4_world.specs.World.{entity_at, with_entity}
use Rattle.tp4_world.specs.declared.place.Placed.{Placed}
use Rattle.tp4_world.proofs.Having.{with_any}
use Rattle.law_calm_run.proofs.Hall.{Calling, Clocking, Connecting, Done, Goes, Hall, Meeting, More, Over, Step, Still, TickGoes, TickStep, Ticking, TicksDone, TicksMore}

-- no entity ever began again
abbrev pub AreNever : List Placed → Type 0
AreNever placed = (system : ℕ) (entity : Entity) → entity_at placed system ≡ Some entity → entity.restarted ≡ None

-- so none is silent
pub awake : (now : ℕ) (placed : List Placed) → AreNever placed → (system : ℕ) (entity : Entity) → entity_at placed system ≡ Some entity → is_silent now entity ≡ false
awake now placed never system entity there = ap (is_within now (frozen_for entity.timers)) (never system entity there)

pub never_after : (placed : List Placed) (system : ℕ) (entity new : Entity) → AreNever placed → entity_at placed system ≡ Some entity → new.restarted ≡ entity.restarted
    → AreNever (with_entity placed system new)
never_after placed system entity new never there same other x is = elim (with_any placed system other new x is) [
  | inl here ↦ ap (λ (e : Entity). e.restarted) here.1 ∙ same ∙ never system entity there
  | inr before ↦ never other x before
]

never_tick : (old : Hall) (made : List Event) (new : Hall) → TickStep old made new → AreNever old.entities → AreNever new.entities
never_tick old made new (Ticking c) never =
    subst (λ (h : Hall). AreNever h.entities) (sym c.does.becomes)
    (never_after old.entities c.system c.entity (ticking whole old.clock c.entity).entity never c.there (ticking_same whole old.clock c.entity))
never_tick old made new (Over o) never =
    subst (λ (h : Hall). AreNever h.entities) (sym o.becomes) (never_after old.entities o.system o.entity (at old.clock o.entity) never o.there refl)

never_ticks : (old : Hall) (made : List Event) (new : Hall) → TickGoes old made new → AreNever old.entities → AreNever new.entities
never_ticks old made new (TicksDone o m n none same) never = subst (λ (h : Hall). AreNever h.entities) (sym same) never
never_ticks old made new (TicksMore o m n mid here rest proper step goes all) never = never_ticks mid rest new goes (never_tick old here mid step never)

-- a step
pub never_then : (titles : List (List ℕ)) (old new : Hall) (made : List Event) → Step titles old made new → AreNever old.entities → AreNever new.entities
never_then titles old new made (Still aside same) never = subst (λ (h : Hall). AreNever h.entities) (sym same) never
never_then titles old new made (Connecting c) never =
    subst (λ (h : Hall). AreNever h.entities) (sym c.does.becomes)
    (never_after old.entities c.system c.entity (connecting old.clock c.entity c.reference c.request).entity never c.there (connecting_same old.clock c.reference c.entity c.request))
never_then titles old new made (Calling c) never =
    subst (λ (h : Hall). AreNever h.entities) (sym c.does.becomes)
    (never_after old.entities c.end.system c.entity (calling whole old.clock c.entity c.end.reference c.call).entity never c.there (calling_same whole old.clock c.end.reference c.entity c.call))
never_then titles old new made (Clocking c) never = never_ticks (record old { clock = old.clock + 1 }) c.later new c.ticks never
never_then titles old new made (Meeting m) never =
    subst (λ (h : Hall). AreNever h.entities) (sym m.does.becomes) (never_after old.entities m.system m.entity m.acted.entity never m.there m.same)

-- steps, one after another
pub never_goes : (titles : List (List ℕ)) (old : Hall) (made : List Event) (new : Hall) → Goes titles old made new → AreNever old.entities → AreNever new.entities
never_goes titles old made new (Done o m n none same) never = subst (λ (h : Hall). AreNever h.entities) (sym same) never
never_goes titles old made new (More o m n mid here rest proper step goes all) never = never_goes titles mid rest new goes (never_then titles old mid here step never)
