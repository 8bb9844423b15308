-- When an end has ended, by the run so far (X.224, frozen references).
use Rattle.std.specs.Prelude.{◌≡◌, ℕ, true, List, [], ◌∷◌, ◌++◌, Option, Some, None}
use Rattle.std.specs.List.{AllByRecursion}
use Rattle.osi_base.specs.Link.{Link}
use Rattle.osi_base.specs.Calls.{Call}
use Rattle.script_journal.specs.declared.event.Event.{Event}
use Rattle.script_lines.specs.declared.line.Line.{Line}
use Rattle.script_lines.specs.declared.line.Line.TheVariants as lines
use Rattle.tp4_entity.specs.Entity.{Entity}
use Rattle.tp4_entity.specs.References.{is_free}
use Rattle.tp4_world.specs.First.{HasNoEnd}
use Rattle.tp4_world.specs.Run.{clock_of}
use Rattle.tp4_world.specs.World.{World, end_numbered, entity_at}
use Rattle.tp4_world.specs.declared.place.EndAt.{EndAt}

-- the end that a line calls
abbrev pub end_called : Line → Option ℕ
end_called (lines.Accept end options octets) = Some end
end_called (lines.Refuse end octets) = Some end
end_called (lines.Disconnect end octets) = Some end
end_called (lines.Data end octets) = Some end
end_called (lines.Expedite end octets) = Some end
end_called (lines.Window end credit) = Some end
end_called line = None

-- a network in which no end was made yet
pub record HasNoEnds {C : Type 0} (world : World C) : Type 0 where
  pub none_made : world.ends ≡ []
  pub none_stands : AllByRecursion (λ one. HasNoEnd one.entity) world.entities

-- the reference of the place is free: no end keeps it, and its system is not silent
pub record IsFreeIn {C : Type 0} (link : C → Link (List ℕ)) (steps : C → Call (List ℕ) → C → Type 0) (world : World C) (place : EndAt) : Type 0 where
  pub entity : Entity
  pub there : entity_at world.entities place.system ≡ Some entity
  pub free : is_free (clock_of link steps world) entity place.reference ≡ true

-- What is run are the lines of a script, or the calls of a network: `Runs` says what they do, and `restart` is the one by which a system begins
-- again
module _ {C Item : Type 0} (link : C → Link (List ℕ)) (steps : C → Call (List ℕ) → C → Type 0) (Runs : World C → List Item → List Event → World C → Type 0) (restart : ℕ → Item) where
  -- between two of them, or at the beginning or the end: those before led to that state, and those after lead on from it
  pub record IsBetween (first : World C) (items : List Item) (journal : List Event) (last : World C) (before : List Item) (mid : World C) (after : List Item) : Type 0 where
    pub made : List Event
    pub rest : List Event
    pub items_are : items ≡ before ++ after
    pub journal_is : journal ≡ made ++ rest
    pub ran : Runs first before made mid
    pub runs_on : Runs mid after rest last

  -- Since the end of that number was made at that place, its reference was free once, or its system began again. The clock moves within a tick
  -- alone, which makes no end: so a reference that comes free there is free when it is done
  pub data EndedSince (first : World C) (items : List Item) (journal : List Event) (last : World C) (number : ℕ) (place : EndAt) : Type 0 where
    WasFree : (before after : List Item) → (mid : World C) → IsBetween first items journal last before mid after → end_numbered mid.ends number ≡ Some place → IsFreeIn link steps mid place
        → EndedSince first items journal last number place
    BeganAgain : (before after : List Item) → (mid : World C) → IsBetween first items journal last before mid (restart place.system ∷ after) → end_numbered mid.ends number ≡ Some place
        → EndedSince first items journal last number place
