-- The transport entities of a network as a relay sees them (X.214, service primitives).
use Rattle.std.specs.Prelude.{◌≡◌, ℕ, Bool, true, false, List, [], ◌∷◌, length, Some, IsSome}
use Rattle.osi_base.specs.Link.{Link}
use Rattle.osi_base.specs.Calls.{Call}
use Rattle.script_journal.specs.declared.event.Event.{Event}
use Rattle.script_journal.specs.declared.event.Event.TheVariants as events
use Rattle.tp4_conn.specs.declared.call.ConnectRequest.{ConnectRequest}
use Rattle.tp4_conn.specs.declared.call.UserCall.{UserCall}
use Rattle.tp4_conn.specs.End.{End}
use Rattle.tp4_number.specs.Number.{wire}
use Rattle.tp4_entity.specs.Entity.{Entity, end_at}
use Rattle.tp4_world.specs.Run.{Calls, Connects}
use Rattle.tp4_world.specs.World.{World, entity_at}
use Rattle.law_tp4_lawful.specs.Own.{IsEndOf}

-- a call that is refused tells a refusal first
abbrev pub is_done : List Event → Bool
is_done (events.No cause ∷ made) = false
is_done made = true

-- the system has a transport entity
abbrev pub has_system : {C : Type 0} → World C → ℕ → Type 0
has_system world system = IsSome (entity_at world.entities system)

-- how many ends were made
abbrev pub ends_of : {C : Type 0} → World C → ℕ
ends_of world = length world.ends

-- nothing was injected
abbrev pub is_honest : {C : Type 0} → (C → Link (List ℕ)) → World C → Bool
is_honest link world = (link world.carrier).honest

-- nothing waits to be taken up, and each end is of the reference at which it stands
pub record IsInOrder {C : Type 0} (link : C → Link (List ℕ)) (world : World C) : Type 0 where
  pub quiet : (link world.carrier).waiting ≡ []
  pub of : (system : ℕ) (entity : Entity) → entity_at world.entities system ≡ Some entity → (reference : ℕ) (end : End) → end_at entity reference ≡ Some end → IsEndOf reference end

module _ {C : Type 0} (link : C → Link (List ℕ)) (steps : C → Call (List ℕ) → C → Type 0) where
  -- a request for a connection, and whether it was done
  pub record AsksFor (old : World C) (system : ℕ) (request : ConnectRequest) (done : Bool) (made : List Event) (new : World C) : Type 0 where
    pub order : IsInOrder link old
    pub connects : Connects link steps old system request made new
    pub done_is : done ≡ is_done made

  -- a call on an end, and whether it was done
  pub record AsksEnd (old : World C) (end : ℕ) (call : UserCall) (done : Bool) (made : List Event) (new : World C) : Type 0 where
    pub order : IsInOrder link old
    pub calls : Calls link steps wire old end call made new
    pub done_is : done ≡ is_done made
