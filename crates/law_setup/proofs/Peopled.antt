-- The transport entities that a set-up makes: each is new, none has a clock ahead, and no end is due.
use Rattle.std.proofs.Common.{◌≡◌, ℕ, suc, ◌+◌, ◌≤◌, Bool, true, false, List, [], ◌∷◌, map, Option, Some, refl, ◌∙◌, ap, subst, arith}
use Rattle.std.specs.Prelude.{if◌then◌else◌, option_map, slice_get}
use Rattle.std.proofs.lemmas.Option.{slice_get-map}
use Rattle.std.specs.List.{AllByRecursion}
use Rattle.osi_base.proofs.Members.{all_both}
use Rattle.tp4_entity.specs.Dues.{AreLater}
use Rattle.tp4_entity.proofs.Dues.{later_none}
use Rattle.tp4_world.specs.First.{IsNew}
use Rattle.tp4_world.specs.declared.place.Placed.{Placed}
use Rattle.tp4_world.specs.steps.Parts.{AreLaterAll}
use Rattle.tp4_world.proofs.Later.{each_later}
use Rattle.tp4_world.proofs.Shown.{nothing_stands}
use Rattle.script_setup.specs.declared.transport.Limits.{Limits}
use Rattle.script_setup.specs.SetUp.{System, SetUp, entity_with, timers_of, titles_of}
use Rattle.law_setup.specs.Entities.{entities_from, entities_of, placed_at}

-- what holds of the entity that an end system has
module _ (P : Placed → Type 0) (life : ℕ) (limits : Limits) where
  of_system : (number : ℕ) (system : System) → P (record { system = number; entity = entity_with limits.references (timers_of life limits) system }) → AllByRecursion P (placed_at life limits number system)
  of_system number system holds = by system.end
    where
      by : (b : Bool) → AllByRecursion P (if b then record { system = number; entity = entity_with limits.references (timers_of life limits) system } ∷ [] else [])
      by true = (holds, tt)
      by false = tt

  pub of_systems : (number : ℕ) (systems : List System) → ((place : ℕ) (system : System) → slice_get systems place ≡ Some system → P (record { system = number + place; entity = entity_with limits.references (timers_of life limits) system }))
      → AllByRecursion P (entities_from life limits number systems)
  of_systems number [] holds = tt
  of_systems number (system ∷ systems) holds =
      all_both P (placed_at life limits number system) (entities_from life limits (number + 1) systems)
      (of_system number system (subst (λ (n : ℕ). P (record { system = n; entity = entity_with limits.references (timers_of life limits) system })) (omega arith) (holds 0 system refl)))
      (of_systems (number + 1) systems (λ place other is.
      subst (λ (n : ℕ). P (record { system = n; entity = entity_with limits.references (timers_of life limits) other })) (omega arith) (holds (suc place) other is)))

pub title_there : (systems : List System) (place : ℕ) (system : System) → slice_get systems place ≡ Some system → slice_get (map (λ (s : System). s.title) systems) place ≡ Some system.title
title_there systems place system is = slice_get-map (λ (s : System). s.title) systems place ∙ ap (λ (found : Option System). option_map (λ (s : System). s.title) found) is

pub entities_new : (setup : SetUp) → AllByRecursion (IsNew (titles_of setup)) (entities_of setup)
entities_new setup =
    of_systems (IsNew (titles_of setup)) setup.life setup.limits 0 setup.systems
    (λ place system is. record {
      title = system.title;
      title_is = subst (λ (n : ℕ). slice_get (titles_of setup) n ≡ Some system.title) (omega arith) (title_there setup.systems place system is);
      own = refl;
      none = nothing_stands setup.limits.references;
      never = refl;
    })

-- no entity has a clock ahead
pub entities_behind : (setup : SetUp) (now : ℕ) → AllByRecursion (λ (one : Placed). one.entity.clock ≤ now) (entities_of setup)
entities_behind setup now = of_systems (λ (one : Placed). one.entity.clock ≤ now) setup.life setup.limits 0 setup.systems (λ place system is. omega arith)

-- no end is due
pub entities_later : (setup : SetUp) (now : ℕ) → AreLaterAll now (entities_of setup)
entities_later setup now =
    each_later now (entities_of setup)
    (of_systems (λ (one : Placed). AreLater now one.entity.ends) setup.life setup.limits 0 setup.systems (λ place system is. later_none now setup.limits.references))
