-- What a relay does with units: what it submits at one end of a pair is a front of what the other end showed.
use Rattle.std.specs.Prelude.{◌≡◌, ◌≢◌, ◌⊎◌, ℕ, List, ◌++◌, slice_get, Some}
use Rattle.std.specs.List.{Contains}
use Rattle.script_journal.specs.Lawful.{Marked, shown, submitted}
use Rattle.script_journal.specs.Partner.{AreEnds}
use Rattle.script_journal.specs.declared.event.Event.{Event}
use Rattle.script_journal.specs.declared.event.Event.TheVariants as events
use Rattle.script_journal.specs.declared.event.Indication.{Indication}

-- the one list of units, with their marks, is a front of the other
abbrev pub IsMarkedFront : List Marked → List Marked → Type 0
IsMarkedFront front all = (rest : List Marked) × (all ≡ front ++ rest)

-- what a relay submits at one end of a pair is a front of what the other end showed
pub record RelaysUnits (journal : List Event) : Type 0 where
  pub on : (i o : ℕ) → Contains journal (events.Joined i o) → IsMarkedFront (submitted o journal) (shown i journal)
  pub back : (i o : ℕ) → Contains journal (events.Joined i o) → IsMarkedFront (submitted i journal) (shown o journal)

-- the end was made by an indication
pub record IsCalled (journal : List Event) (end : ℕ) : Type 0 where
  pub p : ℕ
  pub heard : Indication
  pub is : slice_get journal p ≡ Some (events.Incoming heard)
  pub end_is : heard.end ≡ end

-- two notes have no end in common, and the two ends of one differ
pub record AreJoinedOnce (journal : List Event) : Type 0 where
  pub apart : (p q i o a b : ℕ) → slice_get journal p ≡ Some (events.Joined i o) → slice_get journal q ≡ Some (events.Joined a b) → (i ≡ a) ⊎ ((i ≡ b) ⊎ ((o ≡ a) ⊎ (o ≡ b))) → p ≡ q
  pub two : (p i o : ℕ) → slice_get journal p ≡ Some (events.Joined i o) → i ≢ o

-- of each pair the one end was called, and the other calls
pub record Relays (journal : List Event) : Type 0 where
  pub units : RelaysUnits journal
  pub once : AreJoinedOnce journal
  pub called : (i o : ℕ) → Contains journal (events.Joined i o) → IsCalled journal i
  pub calls : (i o other : ℕ) → Contains journal (events.Joined i o) → AreEnds journal other o → ⊥
