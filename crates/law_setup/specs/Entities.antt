-- The transport entities that a set-up makes (X.224, class 4: timers, frozen references).
use Rattle.std.specs.Prelude.{ℕ, ◌+◌, if◌then◌else◌, List, [], ◌∷◌, ◌++◌}
use Rattle.script_setup.specs.SetUp.{System, SetUp, entity_with, timers_of}
use Rattle.script_setup.specs.declared.transport.Limits.{Limits}
use Rattle.tp4_world.specs.declared.place.Placed.{Placed}

-- an end system has a transport entity, and another system has none
abbrev pub placed_at : ℕ → Limits → ℕ → System → List Placed
placed_at life limits number system =
    if system.end then record { system = number; entity = entity_with limits.references (timers_of life limits) system } ∷ [] else []

-- the entities of the systems from that number on
abbrev pub entities_from : ℕ → Limits → ℕ → List System → List Placed
entities_from life limits number [] = []
entities_from life limits number (system ∷ systems) = placed_at life limits number system ++ entities_from life limits (number + 1) systems

abbrev pub entities_of : SetUp → List Placed
entities_of setup = entities_from setup.life setup.limits 0 setup.systems
