-- A run of a network in small steps, each with one event at most: what is seen of its ends as systems begin again (X.224, frozen references).
use Rattle.std.specs.Prelude.{◌≡◌, ◌≢◌, ◌⊎◌, ℕ, ◌+◌, ◌<◌, ◌≤◌, List, [], ◌∷◌, ◌++◌, length, map, Option, Some, None}
use Rattle.script_journal.specs.declared.event.Event.{Event}
use Rattle.script_journal.specs.declared.event.Event.TheVariants as events
use Rattle.tp4_conn.specs.End.{End}
use Rattle.tp4_entity.specs.Entity.{Entity, end_at}
use Rattle.tp4_world.specs.World.{entity_at, latest}
use Rattle.tp4_world.specs.declared.place.EndAt.{EndAt}
use Rattle.tp4_world.specs.declared.place.Placed.{Placed}

-- ---- events

-- what an event does: it moves the clock; it makes an end at a system; it is another one of an end; a system begins again; anything else
pub data Kind : Type 0 where
  Clock : (now : ℕ) → Kind
  Makes : (end system : ℕ) → Kind
  Of : (end : ℕ) → Kind
  Begins : (system : ℕ) → Kind
  Other : Kind

abbrev pub kind_of : Event → Kind
kind_of (events.Tick now) = Clock now
kind_of (events.Connect asked) = Makes asked.end asked.system
kind_of (events.Incoming heard) = Makes heard.end heard.system
kind_of (events.End end what) = Of end
kind_of (events.Data end octets) = Of end
kind_of (events.Expedite end octets) = Of end
kind_of (events.Refuse end octets) = Of end
kind_of (events.Disconnect end octets) = Of end
kind_of (events.Restart system) = Begins system
kind_of event = Other

abbrev pub kinds_of : List Event → List Kind
kinds_of journal = map kind_of journal

abbrev pub clock_after : ℕ → Kind → ℕ
clock_after now (Clock tick) = tick
clock_after now kind = now

abbrev pub clock_from : ℕ → List Kind → ℕ
clock_from now [] = now
clock_from now (kind ∷ kinds) = clock_from (clock_after now kind) kinds

abbrev pub tick_after : List Kind → ℕ
tick_after kinds = clock_from 0 kinds

-- it is of the end
abbrev pub IsOf : ℕ → Kind → Type 0
IsOf end (Makes other system) = other ≡ end
IsOf end (Of other) = other ≡ end
IsOf end kind = ⊥

-- nothing is told of an end that was made before its system began again, and for so many ticks that system makes none
pub record AreSilent (frozen : ℕ) (kinds : List Kind) : Type 0 where
  pub lost : (front middle rest back : List Kind) (end system : ℕ) (kind : Kind) → kinds ≡ front ++ Makes end system ∷ (middle ++ Begins system ∷ (rest ++ kind ∷ back)) → IsOf end kind → ⊥
  pub late : (front middle back : List Kind) (end system : ℕ) → kinds ≡ front ++ Begins system ∷ (middle ++ Makes end system ∷ back)
      → tick_after front + frozen < tick_after (front ++ Begins system ∷ middle)

-- ---- a network

-- what is seen of a network: its clock, its entities, and the ends that were made, by number from 1
pub record Seen : Type 0 where
  pub clock : ℕ
  pub entities : List Placed
  pub ends : List EndAt

-- an end stands at a reference of a system
pub record IsStanding (s : Seen) (system reference : ℕ) : Type 0 where
  pub entity : Entity
  pub end : End
  pub there : entity_at s.entities system ≡ Some entity
  pub stands : end_at entity reference ≡ Some end

abbrev pub last_restart : Option Entity → Option ℕ
last_restart None = None
last_restart (Some entity) = entity.restarted

-- the tick at which the entity of a system began again last
abbrev pub restarted_at : Seen → ℕ → Option ℕ
restarted_at s system = last_restart (entity_at s.entities system)

-- more ticks ago, if it did
abbrev pub IsLongAgo : ℕ → ℕ → Option ℕ → Type 0
IsLongAgo frozen now None = Prim.Unit {0}
IsLongAgo frozen now (Some tick) = tick + frozen < now

-- ---- steps

-- no end is made, and none stands that did not stand before
pub record Stays (old new : Seen) : Type 0 where
  pub ends : new.ends ≡ old.ends
  pub stood : (system reference : ℕ) → IsStanding new system reference → IsStanding old system reference
  pub restarted : (system : ℕ) → restarted_at new system ≡ restarted_at old system

-- a new end at a reference of a system that is not silent
pub record BeginsEnd (frozen : ℕ) (system reference : ℕ) (old new : Seen) : Type 0 where
  pub audible : IsLongAgo frozen old.clock (restarted_at old system)
  pub ends : new.ends ≡ old.ends ++ record { system = system; reference = reference } ∷ []
  pub stood : (at r : ℕ) → IsStanding new at r → IsStanding old at r ⊎ ((at ≡ system) × (r ≡ reference))
  pub restarted : (at : ℕ) → restarted_at new at ≡ restarted_at old at

-- a system begins again without its ends
pub record BeginsAgain (system : ℕ) (old new : Seen) : Type 0 where
  pub ends : new.ends ≡ old.ends
  pub none : (reference : ℕ) → IsStanding new system reference → ⊥
  pub stood : (at reference : ℕ) → IsStanding new at reference → IsStanding old at reference
  pub now : restarted_at new system ≡ Some old.clock
  pub others : (at : ℕ) → at ≢ system → restarted_at new at ≡ restarted_at old at

-- one step, with the event that it tells, if it tells one
pub data Step (frozen : ℕ) (old : Seen) : Option Kind → Seen → Type 0 where
  Ticking : (now : ℕ) → (new : Seen) → Stays old new → old.clock ≤ now → new.clock ≡ now → Step frozen old (Some (Clock now)) new
  Making : (system reference : ℕ) → (new : Seen) → BeginsEnd frozen system reference old new → new.clock ≡ old.clock → Step frozen old (Some (Makes (length old.ends + 1) system)) new
  Telling : (system reference : ℕ) → (new : Seen) → IsStanding old system reference → Stays old new → new.clock ≡ old.clock → Step frozen old (Some (Of (latest old.ends system reference))) new
  Restarting : (system : ℕ) → (new : Seen) → BeginsAgain system old new → new.clock ≡ old.clock → Step frozen old (Some (Begins system)) new
  Noting : (new : Seen) → Stays old new → new.clock ≡ old.clock → Step frozen old (Some Other) new
  Quietly : (new : Seen) → Stays old new → new.clock ≡ old.clock → Step frozen old None new

abbrev pub told_by : Option Kind → List Kind
told_by None = []
told_by (Some kind) = kind ∷ []

pub data Runs (frozen : ℕ) : Seen → List Kind → Seen → Type 0 where
  Stops : (s : Seen) → Runs frozen s [] s
  Goes : (old mid new : Seen) → (told : Option Kind) → (kinds : List Kind) → Step frozen old told mid → Runs frozen mid kinds new → Runs frozen old (told_by told ++ kinds) new

-- nothing happened yet
pub record IsUnused (s : Seen) : Type 0 where
  pub clock : s.clock ≡ 0
  pub ends : s.ends ≡ []
  pub never : (system : ℕ) → restarted_at s system ≡ None
