-- What a lawful journal says of each event by which a user is told something (X.214, queue model): a unit that is shown is the next one of those that the
-- partner submitted before, and a connect indication says what the latest request of that end said.
use Rattle.std.specs.Prelude.{◌≡◌, ℕ, List, ◌∷◌, ◌++◌, length, slice_get, Some}
use Rattle.script_journal.specs.Lawful.{IsMatched, Marked, expediteds, normals, shown, submitted}
use Rattle.script_journal.specs.Partner.{ArePartners, IsLatest}
use Rattle.script_journal.specs.declared.event.Event.{Event}
use Rattle.script_journal.specs.declared.event.Event.TheVariants as events
use Rattle.script_journal.specs.declared.event.Indication.{Indication}
use Rattle.script_journal.specs.declared.event.Request.{Request}
use Rattle.tpdu.specs.declared.service.EndTold.TheVariants as tells

-- of the units of one mark: so many as the end has shown before, and this is the next of those that its partner submitted before
pub record IsNextUnit (marked : List Marked → List (List ℕ)) (before : List Event) (end : ℕ) (octets : List ℕ) : Type 0 where
  pub other : ℕ
  pub partners : ArePartners before end other
  pub next : slice_get (marked (submitted other before)) (length (marked (shown end before))) ≡ Some octets

-- the latest request before, with that calling address and reference, says the same
pub record IsRequested (titles : List (List ℕ)) (before : List Event) (heard : Indication) : Type 0 where
  pub q : ℕ
  pub asked : Request
  pub latest : IsLatest before (length before) q heard.calling heard.partner asked
  pub matched : IsMatched titles heard asked

-- what an event tells, after those before it
abbrev pub TellsRightly : List (List ℕ) → List Event → Event → Type 0
TellsRightly titles before (events.End end (tells.Got octets)) = IsNextUnit normals before end octets
TellsRightly titles before (events.End end (tells.Urgent octets)) = IsNextUnit expediteds before end octets
TellsRightly titles before (events.Incoming heard) = IsRequested titles before heard
TellsRightly titles before event = Unit {0}

-- each event of a journal does
abbrev pub EachTellsRightly : List (List ℕ) → List Event → Type 0
EachTellsRightly titles journal = (before after : List Event) (event : Event) → journal ≡ before ++ event ∷ after → TellsRightly titles before event
