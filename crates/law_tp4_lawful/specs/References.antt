-- What may come to an end: a TPDU that is afloat and matches an end was offered after that end was made, by its partner, or by the partner's entity where it had no end; and
-- a DT or an ED carries the piece or the unit of its number (X.224, class 4: association of TPDUs with connections; frozen references; sequencing).
use Rattle.std.specs.Prelude.{◌≡◌, ◌⊎◌, ◌<◌, ◌≤◌, ℕ, ◌+◌, ◌-◌, ◌==◌, Bool, true, List, ◌∷◌, ◌++◌, slice_get, Option, Some, None}
use Rattle.std.specs.List.{AllByRecursion, Contains}
use Rattle.nsap.specs.Address.{selector_of}
use Rattle.osi_base.specs.declared.unit.Unit.{Unit as CarriedUnit}
use Rattle.osi_base.specs.Calls.{Call}
use Rattle.osi_base.specs.Link.{Link}
use Rattle.script_journal.specs.Lawful.{Makes, Marked, expediteds, normals, submitted}
use Rattle.script_journal.specs.Partner.{ArePartners}
use Rattle.script_journal.specs.RawLawful.{tick_after}
use Rattle.script_journal.specs.declared.event.Event.{Event}
use Rattle.script_lines.specs.declared.line.Line.{Line}
use Rattle.tpdu.specs.Kinds.{has_number}
use Rattle.tpdu.specs.Values.{TpduAndSum, destination_of}
use Rattle.tpdu.specs.Writing.{kind_for}
use Rattle.tpdu.specs.declared.tpdu.Tpdu.{Tpdu}
use Rattle.tpdu.specs.declared.tpdu.Tpdu.TheVariants.{Dr, Dc, Dt, Ed}
use Rattle.tp4_number.specs.Formats.{block_of}
use Rattle.tp4_number.specs.Number.{wire}
use Rattle.tpdu.specs.declared.service.Options.{Options}
use Rattle.tp4_flow.specs.declared.step.EndEvent.{EndEvent}
use Rattle.tp4_sending.specs.Pieces.{cut_at}
use Rattle.tp4_conn.specs.Agreeing.{header_of}
use Rattle.tp4_conn.specs.End.{End, IsTimed, agreed_format}
use Rattle.tp4_conn.specs.Matching.{is_match}
use Rattle.tp4_conn.specs.declared.halves.Halves.{Halves}
use Rattle.tp4_conn.specs.declared.states.StateData.{StateData}
use Rattle.tp4_conn.specs.declared.states.StateData.TheVariants.{AkWait, Opened}
use Rattle.tp4_conn.specs.declared.timers.Timers.{Timers}
use Rattle.tp4_entity.specs.Entity.{Entity, end_at}
use Rattle.tp4_entity.specs.Unit.{EndsWith, Separates, extended_of}
use Rattle.tp4_world.specs.First.{IsFirst}
use Rattle.tp4_world.specs.Run.{RunsLines, Starts}
use Rattle.tp4_world.specs.World.{World, end_numbered, entity_at, latest}
use Rattle.tp4_world.specs.declared.place.EndAt.{EndAt}
use Rattle.tp4_world.specs.declared.place.Placed.{Placed}
use Rattle.law_tp4_lawful.specs.First.{AreDistinct, IsUntouched}
use Rattle.law_tp4_lawful.specs.Limits.{IsProperLine}

-- it holds of the journal and the last state of each run after which the carrier is honest, since no injection was taken. `wrap` is what a receiving half
-- keeps of a number
abbrev pub OnRuns : {C : Type 0} → (C → Link (List ℕ)) → (C → Call (List ℕ) → C → Type 0) → (ℕ → ℕ → ℕ) → (List Event → World C → Type 0) → Type 0
OnRuns {C} link steps wrap Holds =
    (titles : List (List ℕ)) (timers : Timers) (made : C) (placed : List Placed) (begun journal : List Event) (script : List Line) (first last : World C)
    → IsTimed timers → 1 ≤ timers.inactive → AreDistinct titles
    → IsFirst timers.life titles (link made) placed → AllByRecursion (IsUntouched timers) placed → Starts link steps made placed begun first
    → (link last.carrier).honest ≡ true → AllByRecursion IsProperLine script → RunsLines link steps wrap titles first script journal last
    → Holds (begun ++ journal) last

-- the end of the number y stands at that reference of the entity of a system
pub record IsEnd {C : Type 0} (last : World C) (y system : ℕ) (entity : Entity) (reference : ℕ) (end : End) : Type 0 where
  pub there : entity_at last.entities system ≡ Some entity
  pub stands : end_at entity reference ≡ Some end
  pub number : latest last.ends system reference ≡ y

-- A unit is afloat for the entity of a system, which reads the TPDU in it, in the formats of its ends; and the TPDU matches the end of the number y
-- there. A frozen end matches none
pub record ComesTo {C : Type 0} (link : C → Link (List ℕ)) (last : World C) (y : ℕ) (tpdu : Tpdu) : Type 0 where
  pub tick : ℕ
  pub unit : CarriedUnit (List ℕ)
  pub floats : Contains (link last.carrier).floating (tick, unit)
  pub live : (link last.carrier).clock ≤ tick + (link last.carrier).bound unit.to
  pub transport : (selector_of unit.to == 1) ≡ true
  pub system : ℕ
  pub entity : Entity
  pub to : unit.to ≡ entity.own
  pub tpdus : List TpduAndSum
  pub rest : List ℕ
  pub told : List EndEvent
  pub separates : Separates (extended_of entity) unit.octets tpdus rest
  pub ends : EndsWith (extended_of entity) rest told
  pub sum : Bool
  pub among : Contains tpdus (tpdu, sum)
  pub reference : ℕ
  pub destination : destination_of tpdu ≡ Some reference
  pub end : End
  pub is_end : IsEnd last y system entity reference end
  pub matches : is_match end.base end.stage unit.from tpdu ≡ true

-- the partner of the end y by the journal, at the entity of that address
pub record HasPartnerAt {C : Type 0} (journal : List Event) (last : World C) (y : ℕ) (address : List ℕ) : Type 0 where
  pub x : ℕ
  pub partners : ArePartners journal x y
  pub place : EndAt
  pub numbered : end_numbered last.ends x ≡ Some place
  pub entity : Entity
  pub there : entity_at last.entities place.system ≡ Some entity
  pub own : entity.own ≡ address

-- what an entity answers on its own: a DR whose source reference is 0, or a DC
abbrev pub IsAnswer : Tpdu → Type 0
IsAnswer (Dr destination source reason info text) = source ≡ 0
IsAnswer (Dc destination source) = Unit {0}
IsAnswer other = ⊥

-- what comes to an end is such an answer, or the end has a partner, whose address is the source of the unit
abbrev pub IsOfPartner : {C : Type 0} → (C → Link (List ℕ)) → List Event → World C → Type 0
IsOfPartner link journal last = (y : ℕ) (tpdu : Tpdu) (comes : ComesTo link last y tpdu) → IsAnswer tpdu ⊎ HasPartnerAt journal last y comes.unit.from

-- the journal has an event that makes the end y, and each such event stands at this tick or before
pub record IsMadeBy (journal : List Event) (y tick : ℕ) : Type 0 where
  pub before : List Event
  pub event : Event
  pub after : List Event
  pub is : journal ≡ before ++ event ∷ after
  pub makes : Makes y event
  pub later : (front back : List Event) (other : Event) → journal ≡ front ++ other ∷ back → Makes y other → tick_after front ≤ tick

-- what comes to an end was offered at the tick of the event that made the end, or later: nothing old meets a new end
abbrev pub IsNotBefore : {C : Type 0} → (C → Link (List ℕ)) → List Event → World C → Type 0
IsNotBefore link journal last = (y : ℕ) (tpdu : Tpdu) (comes : ComesTo link last y tpdu) → IsMadeBy journal y comes.tick

-- the TPDU has the wire number of n; a DT carries piece n of the normal units, a unit having pieces of so many octets at most, and an ED the expedited
-- unit n
abbrev pub Carries : ℕ → ℕ → List Marked → ℕ → Tpdu → Type 0
Carries size block units n (Dt destination last number text) = (number ≡ wire block n) × (0 < size) × (cut_at size (normals units) n ≡ Some (record { last = last; octets = text }))
Carries size block units n (Ed destination last number text) = (number ≡ wire block n) × (slice_get (expediteds units) n ≡ Some text)
Carries size block units n other = Unit {0}

-- the halves of an end that is open
abbrev pub halves_at : StateData → Option Halves
halves_at (AkWait w) = Some w.halves
halves_at (Opened o) = Some o.halves
halves_at other = None

-- the octets of a piece that are agreed on: the size of a TPDU, less the header of a DT
abbrev pub piece_of : Options → ℕ
piece_of options = options.size - header_of options

-- the octets of a piece of each end: what that end agreed on, and what its partner agreed on, whether they are open or not
pub record AreSizes {C : Type 0} (journal : List Event) (last : World C) (size : ℕ → ℕ) : Type 0 where
  pub own : (x system reference : ℕ) (entity : Entity) (end : End) (options : Options) → IsEnd last x system entity reference end
      → end.base.agreed ≡ Some options → size x ≡ piece_of options
  pub partner : (x y system reference : ℕ) (entity : Entity) (end : End) (options : Options) → ArePartners journal x y → IsEnd last y system entity reference end
      → end.base.agreed ≡ Some options → size x ≡ piece_of options

-- A DT or an ED that comes to an end carries what its partner was asked to send. What has a number comes only to an end that has agreed, and the pieces
-- have the size on which that end agreed, whatever became of its partner
pub record AreCarried {C : Type 0} (link : C → Link (List ℕ)) (journal : List Event) (last : World C) : Type 0 where
  pub size : ℕ → ℕ
  pub sizes : AreSizes journal last size
  pub each : (x y : ℕ) (tpdu : Tpdu) (comes : ComesTo link last y tpdu) → ArePartners journal x y
      → (n : ℕ) × Carries (size x) (block_of (agreed_format comes.end.base.agreed)) (submitted x journal) n tpdu
  pub agreed : (x y : ℕ) (tpdu : Tpdu) (comes : ComesTo link last y tpdu) → ArePartners journal x y → has_number (kind_for tpdu) ≡ true
      → (options : Options) × (comes.end.base.agreed ≡ Some options) × (size x ≡ piece_of options)
