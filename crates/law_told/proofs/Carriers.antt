-- A carrier between declared systems, over declared LANs: what it tells can be read back from its text (X.233, connectionless-mode network service).
use Rattle.std.specs.Prelude.{◌≡◌, ◌<◌, ◌≤◌, ◌^◌, ℕ, Bool, true, List, length, IsTrue}
use Rattle.std.specs.List.{AllByRecursion}
use Rattle.osi_base.specs.declared.unit.Up.{Up}
use Rattle.osi_base.specs.declared.unit.Up.TheVariants.{Unit as Came, Note as Noted}
use Rattle.osi_base.specs.Link.{Link}
use Rattle.osi_base.specs.Calls.{Call}
use Rattle.law_carrier_answers.specs.Answers.{AreOctets}
use Rattle.script_lines.specs.Tags.{Tags}
use Rattle.script_journal.specs.Injective.{AreTold}
use Rattle.script_journal.specs.Told.{cells_of}
use Rattle.tp4_world.specs.Total.{Serves}
use Rattle.script_journal.specs.declared.event.Event.TheVariants as events

-- the note has an event that its text tells, and a unit comes up at a declared system
abbrev pub IsToldUp : {A : Type 0} → Tags → Up A → Type 0
IsToldUp tags (Came arrival) = arrival.system < length tags.systems
IsToldUp tags (Noted note) = AreTold tags (cells_of (events.Net note))

-- in a set of states that calls do not leave: all that may be asked is answered, what waits is told, a pair that can be taken is of a declared system, and the
-- clock has not passed its limit. What passes for an address has an octet, and is octets
pub record Tells {C : Type 0} (tags : Tags) (is_address : List ℕ → Bool) (link : C → Link (List ℕ)) (steps : C → Call (List ℕ) → C → Type 0) (Stands : C → Type 0) : Type 0 where
  pub serves : Serves is_address link steps Stands
  pub waiting : (old : C) → Stands old → AllByRecursion (IsToldUp tags) (link old).waiting
  pub picks : (old : C) → Stands old → (pick system : ℕ) → IsTrue ((link old).takes pick system) → (pick < 2 ^ 64) × (system < length tags.systems)
  pub clock : (old : C) → Stands old → (link old).clock ≤ 4000000000
  pub addresses : (address : List ℕ) → is_address address ≡ true → AreOctets address × (0 < length address)
