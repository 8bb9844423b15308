-- What holds over whole numbers holds over those of the wire: a run over wire numbers is one over whole numbers, with the same journal, and its entities
-- have the same selectors, free references and callers.
use Rattle.std.proofs.Common.{◌≡◌, ℕ, ◌||◌, ◌&&◌, not, Bool, true, false, cond, List, [], ◌∷◌, map, Option, Some, None, refl, sym, ◌∙◌, ap, subst}
use Rattle.std.specs.Prelude.{option_map}
use Rattle.std.specs.List.{find, list_any}
use Rattle.osi_base.specs.Calls.{Call}
use Rattle.osi_base.specs.Link.{Link}
use Rattle.osi_base.specs.declared.unit.Unit.{Unit as CarriedUnit}
use Rattle.script_journal.specs.declared.event.Event.TheVariants as events
use Rattle.script_lines.specs.declared.line.Line.TheVariants as lines
use Rattle.tp4_number.specs.Number.{whole, wire}
use Rattle.tp4_conn.specs.Matching.{is_called_by}
use Rattle.tp4_conn.specs.End.{End}
use Rattle.tp4_conn.specs.Wire.{end_on_wire}
use Rattle.tp4_entity.specs.Association.{is_called}
use Rattle.tp4_entity.specs.Entity.{Entity}
use Rattle.tp4_entity.specs.Wire.{entity_on_wire}
use Rattle.tp4_entity.proofs.Wires.{frozen_on}
use Rattle.tp4_world.specs.Laws.{WholeLine, WholeRun}
use Rattle.tp4_world.specs.Wire.{placed_on_wire}
use Rattle.tp4_world.specs.Run.{RunsLine}
use Rattle.tp4_world.specs.World.{World, entity_at, is_of}
use Rattle.tp4_world.specs.declared.place.Placed.{Placed}
use Rattle.tp4_world.proofs.OnWire.{least_on}
use Rattle.law_tp4_lawful.proofs.WorldPlaces.{none_some, some_same}
use Rattle.law_tp4_lawful.proofs.WorldStarts.{no_ends}
use Rattle.law_calm_run.specs.Service.{ConnectsAreIndicated, MayIndicate}

-- ---- entities

called_on : (frozen : Bool) (from : List ℕ) (reference : ℕ) (place : Option End) → is_called frozen from reference (option_map end_on_wire place) ≡ is_called frozen from reference place
called_on frozen from reference None = refl
called_on true from reference (Some end) = ap (λ (b : Bool). is_called_by end.base from reference && b) (frozen_on end.stage)
called_on false from reference (Some end) = ap (λ (b : Bool). is_called_by end.base from reference && not b) (frozen_on end.stage)

any_on : (test : Option End → Bool) (places : List (Option End)) → ((place : Option End) → test (option_map end_on_wire place) ≡ test place) → list_any test (map (option_map end_on_wire) places) ≡ list_any test places
any_on test [] same = refl
any_on test (place ∷ places) same = λ i. same place i || any_on test places same i

may_whole : (now : ℕ) (e : Entity) (from : List ℕ) (reference : ℕ) (selector : List ℕ) → MayIndicate now (entity_on_wire e) from reference selector → MayIndicate now e from reference selector
may_whole now e from reference selector m = record {
  registered = m.registered;
  own = m.own;
  free = sym (least_on now e) ∙ m.free;
  none = sym (any_on (is_called false from reference) e.ends (called_on false from reference)) ∙ m.none;
  none_frozen = sym (any_on (is_called true from reference) e.ends (called_on true from reference)) ∙ m.none_frozen;
}

entity_whole : (placed : List Placed) (system : ℕ) (e : Entity) → entity_at (map placed_on_wire placed) system ≡ Some e → (t : Entity) × (entity_at placed system ≡ Some t) × (e ≡ entity_on_wire t)
entity_whole [] system e is = absurd (none_some e is)
entity_whole (one ∷ placed) system e is = by_first (is_of system one) refl is (entity_whole placed system e)
  where
    by_first : (here : Bool) → is_of system one ≡ here → option_map (λ (x : Placed). x.entity) (cond here (Some (placed_on_wire one)) (find (is_of system) (map placed_on_wire placed))) ≡ Some e
        → (entity_at (map placed_on_wire placed) system ≡ Some e → (t : Entity) × (entity_at placed system ≡ Some t) × (e ≡ entity_on_wire t))
        → (t : Entity) × (entity_at (one ∷ placed) system ≡ Some t) × (e ≡ entity_on_wire t)
    by_first true at is rest = (one.entity, ap (λ (b : Bool). option_map (λ (x : Placed). x.entity) (cond b (Some one) (find (is_of system) placed))) at, sym (some_same (entity_on_wire one.entity) e is))
    by_first false at is rest =
        let r = rest is in
        (r.0, ap (λ (b : Bool). option_map (λ (x : Placed). x.entity) (cond b (Some one) (find (is_of system) placed))) at ∙ r.1, r.2)

-- ---- the connect law

pub indicated_on_wire : {C : Type 0} (link : C → Link (List ℕ)) (steps : C → Call (List ℕ) → C → Type 0) (titles : List (List ℕ)) (Waits : C → List (CarriedUnit (List ℕ)) → Type 0)
    → WholeRun link steps → WholeLine link steps → ConnectsAreIndicated link steps whole titles Waits → ConnectsAreIndicated link steps wire titles Waits
indicated_on_wire {C} link steps titles Waits whole_run whole_line indicated timers first before last script journal settled system to selector called octets options asked start run c =
    let line = lines.Connect system selector to called options octets in
    let above = whole_run titles first script journal before (no_ends titles first.entities start.entities) run.runs in
    let connects = whole_line titles above.0 line (events.Connect asked ∷ c.later) c.between
    (subst (λ (x : World C). RunsLine link steps wire titles x line (events.Connect asked ∷ c.later) c.between) above.2 c.connects) in
    let settles = whole_line titles connects.0 lines.Settle settled last (subst (λ (x : World C). RunsLine link steps wire titles x lines.Settle settled last) connects.2 c.settles) in
    let there = entity_whole connects.0.entities to c.entity (ap (λ (x : World C). entity_at x.entities to) (sym connects.2) ∙ c.entity_is) in
    indicated timers first above.0 settles.0 script journal settled system to selector called octets options asked start
    (record { settled = run.settled; proper = run.proper; unrouted = run.unrouted; undropped = run.undropped; runs = above.1 })
    (record {
      later = c.later;
      between = connects.0;
      proper = c.proper;
      connects = connects.1;
      settles = settles.1;
      undropped = c.undropped;
      entity = there.0;
      entity_is = there.1;
      may = may_whole (link connects.0.carrier).clock there.0 asked.calling asked.reference called
          (subst (λ (x : World C). MayIndicate (link x.carrier).clock (entity_on_wire there.0) asked.calling asked.reference called) connects.2
          (subst (λ (e : Entity). MayIndicate (link c.between.carrier).clock e asked.calling asked.reference called) there.2 c.may));
    })
