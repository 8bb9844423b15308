-- An end that its user has not answered, and entities that are not silent (X.224, class 4: connection establishment; frozen references).
use Rattle.std.specs.Prelude.{◌≡◌, ℕ, true, false, List, Some}
use Rattle.tp4_conn.specs.End.{End}
use Rattle.tp4_conn.specs.Matching.{is_called_by}
use Rattle.tp4_conn.specs.declared.states.StateData.{StateData}
use Rattle.tp4_conn.specs.declared.states.StateData.TheVariants.{Frozen, UserWait}
use Rattle.tp4_entity.specs.Entity.{Entity, end_at}
use Rattle.tp4_entity.specs.Silence.{is_silent}
use Rattle.tp4_world.specs.World.{World, entity_at}

-- the user of a called end has not answered, or the end is frozen
abbrev pub IsUnanswered : StateData → Type 0
IsUnanswered (UserWait since) = Unit {0}
IsUnanswered (Frozen when) = Unit {0}
IsUnanswered stage = ⊥

-- of the called ends at the address `to` that are for that calling address and reference none was answered that is not frozen
abbrev pub AreUnanswered : {C : Type 0} → World C → List ℕ → List ℕ → ℕ → Type 0
AreUnanswered last to from reference = (system own : ℕ) (entity : Entity) (end : End) → entity_at last.entities system ≡ Some entity → entity.own ≡ to → end_at entity own ≡ Some end
    → is_called_by end.base from reference ≡ true → IsUnanswered end.stage

-- none of the entities at that address is silent at that tick
abbrev pub AreListening : {C : Type 0} → ℕ → World C → List ℕ → Type 0
AreListening now last to = (system : ℕ) (entity : Entity) → entity_at last.entities system ≡ Some entity → entity.own ≡ to → is_silent now entity ≡ false
