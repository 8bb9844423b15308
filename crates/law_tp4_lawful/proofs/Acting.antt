-- A step of one end of an entity, as a step of the history (X.224, class 4 state tables).
use Rattle.std.specs.Prelude.{◌≡◌, ◌≤◌, ℕ, ◌+◌, List, [], Option, Some, None}
use Rattle.script_journal.specs.declared.event.Event.{Event as Told}
use Rattle.tp4_number.specs.Number.{whole}
use Rattle.tp4_conn.specs.End.{End}
use Rattle.tp4_conn.specs.Living.{IsFit}
use Rattle.tp4_conn.specs.Proper.{IsProperEvent}
use Rattle.tp4_conn.specs.Table.{Event, Called, Took, stepped}
use Rattle.tp4_conn.specs.declared.timers.Timers.{Timers}
use Rattle.tp4_entity.specs.Entity.{Entity, end_at, moved}
use Rattle.law_tp4_history.specs.Ends.{Offer, Terms, Times}
use Rattle.law_tp4_history.specs.History.{History, IsPartner, IsTaken}
use Rattle.law_tp4_history.specs.Tracks.{Whole}
use Rattle.law_tp4_history.specs.Lines.{IsKnownEvent}
use Rattle.law_tp4_history.specs.Moves.{IsSourced, times_of}
use Rattle.law_tp4_history.specs.Seen.{seen}
use Rattle.tp4_world.specs.Telling.{call_events}
use Rattle.tp4_world.specs.World.{entity_at}
use Rattle.tp4_world.specs.declared.place.EndAt.{EndAt}
use Rattle.tp4_world.specs.declared.place.Placed.{Placed}
use Rattle.law_tp4_lawful.proofs.Known.{AreTerms, IsKnown, Known}
use Rattle.law_tp4_lawful.proofs.Worlds.{Follows}

-- the same ends at another tick
pub record IsLike (now : ℕ) (entity other : Entity) : Type 0 where
  pub own : other.own ≡ entity.own
  pub timers : other.timers ≡ entity.timers
  pub ends : other.ends ≡ entity.ends
  pub restarted : other.restarted ≡ entity.restarted
  pub clock : other.clock ≤ now

-- a TPDU that comes to end k is an offer as it is read, where n is its number; nothing else is
abbrev pub Comes : Times → History → ℕ → ℕ → Event → Option Offer → Type 0
Comes times h k n (Took tpdu sum) taken = (o : Offer) × (taken ≡ Some o) × IsTaken times h k o (seen n tpdu)
Comes times h k n other taken = taken ≡ None

-- the lines of a call
abbrev pub first_of : ℕ → Event → List Told
first_of number (Called call) = call_events number call
first_of number other = []

-- an end of an entity takes an event: the history takes a step
abbrev pub Acts : List (List ℕ) → Timers → Type 0
Acts titles timers = (w : Whole) (journal : List Told) (entities : List Placed) (ends : List EndAt) (system : ℕ) (entity other : Entity) (reference : ℕ) (e : End)
    (known : IsKnown w entity.own reference e) (n : ℕ) (event : Event) (taken : Option Offer)
    → Known titles timers w journal entities ends → entity_at entities system ≡ Some entity → end_at entity reference ≡ Some e → IsLike w.base.clock entity other
    → IsFit e event → IsSourced n event → IsProperEvent e event → Comes (times_of timers) w.base known.k n event taken
    → ((z : ℕ) (terms : Terms) → IsPartner w.base known.k z → AreTerms w.base known.k z terms → IsKnownEvent terms e.base e.stage taken event (w.track known.k) (w.track z))
    → Follows titles timers w journal entities ends system entity.own (first_of (known.k + 1) event) (moved other reference (stepped whole w.base.clock e event))
