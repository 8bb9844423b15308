-- What starts of a set-up that is well and in octets: the LANs have its ports, each system and each transport entity has the number of a declared system, and
-- no entity has an end.
use Rattle.std.proofs.Common.{◌≡◌, ◌≤◌, ◌<◌, ℕ, zero, suc, ◌+◌, ◌-◌, Bool, true, false, ◌==◌, List, [], ◌∷◌, ◌++◌, length, Some, None, refl, subst, arith, if◌then◌else◌, option_map, cond}
use Rattle.std.specs.Prelude.{slice_get, find, replicate}
use Rattle.std.specs.List.{AllByRecursion}
use Rattle.std.proofs.lemmas.Bool.{eqb-true}
use Rattle.lan_step.specs.Bag.{new_bag}
use Rattle.lan_step.specs.Rows.{IsLan, room_in}
use Rattle.lan_step.specs.declared.row.Lan.{Lan}
use Rattle.lan_step.specs.declared.row.PortRow.{PortRow}
use Rattle.tp4_conn.specs.End.{End}
use Rattle.tp4_entity.specs.Entity.{Entity, end_at, there}
use Rattle.tp4_world.specs.World.{entity_at, is_of}
use Rattle.tp4_world.specs.declared.place.Placed.{Placed}
use Rattle.script_lines.specs.Tags.{Tags}
use Rattle.script_setup.specs.declared.transport.Limits.{Limits}
use Rattle.script_setup.specs.Fitting.{IsWell}
use Rattle.script_setup.specs.SetUp.{System, SetUp, end_at as end_by, entity_with, nodes_from, nodes_of, timers_of}
use Rattle.law_setup.specs.Entities.{entities_from, entities_of}
use Rattle.law_told.proofs.EndSteps.{EntityFew}
use Rattle.law_told.proofs.Network.{AreNodes}
use Rattle.law_told.proofs.Notes.{BagTold, IsDeclared}

-- ---- the LANs

rooms_low : (lans : List Lan) (lan : ℕ) → AllByRecursion IsLan lans → room_in (slice_get lans lan) ≤ 1497
rooms_low [] lan h = omega arith
rooms_low (first ∷ lans) zero h = h.0.3
rooms_low (first ∷ lans) (suc lan) h = rooms_low lans lan h.1

module _ (tags : Tags) (setup : SetUp) (systems : length tags.systems ≡ length setup.systems) (lans : length tags.lans ≡ length setup.lans) where
  rows_declared : (rows : List PortRow) → AllByRecursion (λ row. row.port.lan < length setup.lans) rows
      → AllByRecursion (λ row. (row.system < length setup.systems) × (row.end ≡ end_by setup.systems row.system)) rows → AllByRecursion (IsDeclared tags) rows
  rows_declared [] h k = tt
  rows_declared (row ∷ rows) h k = (record { system = omega (arith, k.0.0, systems); lan = omega (arith, h.0, lans) }, rows_declared rows h.1 k.1)

  pub bag_first : IsWell setup → BagTold tags (new_bag setup.lans setup.ports)
  bag_first w = record { rows = rows_declared setup.ports w.listed w.kinds; rooms = λ lan. rooms_low setup.lans lan w.lans; few = omega arith; waiting = tt }

  -- ---- the systems

  nodes_low : (number : ℕ) (rest : List System) → number + length rest ≤ length tags.systems → AreNodes tags (nodes_from setup number rest)
  nodes_low number [] few = tt
  nodes_low number (system ∷ rest) few = (omega (arith, few), nodes_low (number + 1) rest (omega (arith, few)))

  pub nodes_first : AreNodes tags (nodes_of setup)
  nodes_first = nodes_low 0 setup.systems (omega (arith, systems))

-- ---- the transport entities

record IsFirst (most system : ℕ) (e : Entity) : Type 0 where
  few : system < most
  none : EntityFew 0 e

none_there : (count place : ℕ) (end : End) → there (slice_get (replicate count None) place) ≡ Some end → ⊥
none_there zero place end h = absurd cc
none_there (suc count) zero end h = absurd cc
none_there (suc count) (suc place) end h = none_there count place end h

none_if : (none : Bool) (references place : ℕ) (end : End) → (if none then None else there (slice_get (replicate references None) place)) ≡ Some end → ⊥
none_if true references place end h = absurd cc
none_if false references place end h = none_there references place end h

no_end : (references : ℕ) (limits : Limits) (life : ℕ) (system : System) (reference : ℕ) (end : End) → end_at (entity_with references (timers_of life limits) system) reference ≡ Some end → ⊥
no_end references limits life system reference end h = none_if (reference == 0) references (reference - 1) end h

entity_first : (life : ℕ) (limits : Limits) (number : ℕ) (rest : List System) (system : ℕ) (e : Entity) → entity_at (entities_from life limits number rest) system ≡ Some e → IsFirst (number + length rest) system e
entity_first life limits number [] system e h = absurd cc
entity_first life limits number (first ∷ rest) system e h = by first.end h (λ k. later (entity_first life limits (number + 1) rest system e k))
  where
    later : IsFirst (number + 1 + length rest) system e → IsFirst (number + length (first ∷ rest)) system e
    later f = let few = f.few in record { few = omega (arith, few); none = f.none }

    here : (b : Bool) → (number == system) ≡ b → option_map (λ (one : Placed). one.entity)
        (cond b (Some (record { system = number; entity = entity_with limits.references (timers_of life limits) first })) (find (is_of system) (entities_from life limits (number + 1) rest))) ≡ Some e
        → (entity_at (entities_from life limits (number + 1) rest) system ≡ Some e → IsFirst (number + length (first ∷ rest)) system e) → IsFirst (number + length (first ∷ rest)) system e
    here true is found others =
        let same : entity_with limits.references (timers_of life limits) first ≡ e = cc found in
        let number_is = eqb-true number system is in
        record {
          few = omega (arith, number_is);
          none = subst (EntityFew 0) same (λ reference end k. absurd (no_end limits.references limits life first reference end k));
        }
    here false is found others = others found

    by : (b : Bool) → entity_at ((if b then record { system = number; entity = entity_with limits.references (timers_of life limits) first } ∷ [] else []) ++ entities_from life limits (number + 1) rest) system ≡ Some e
        → (entity_at (entities_from life limits (number + 1) rest) system ≡ Some e → IsFirst (number + length (first ∷ rest)) system e) → IsFirst (number + length (first ∷ rest)) system e
    by true found others = here (number == system) refl found others
    by false found others = others found

pub first_low : (setup : SetUp) (system : ℕ) (e : Entity) → entity_at (entities_of setup) system ≡ Some e → system < length setup.systems
first_low setup system e is = let few = (entity_first setup.life setup.limits 0 setup.systems system e is).few in omega (arith, few)

pub first_few : (setup : SetUp) (system : ℕ) (e : Entity) → entity_at (entities_of setup) system ≡ Some e → EntityFew 0 e
first_few setup system e is = (entity_first setup.life setup.limits 0 setup.systems system e is).none
