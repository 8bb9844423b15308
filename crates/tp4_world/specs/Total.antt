-- Each line that a running network with its transport entities may be asked has its events, where the carrier answers all that it may be asked
-- (X.214, service primitives; X.233, connectionless-mode network service).
use Rattle.std.specs.Prelude.{◌≡◌, ◌<◌, ◌≤◌, ℕ, Bool, true, List, length, slice_get, Option, Some, IsSome}
use Rattle.std.specs.List.{AllByRecursion}
use Rattle.osi_base.specs.declared.unit.Up.{Up}
use Rattle.osi_base.specs.declared.unit.Up.TheVariants.{Unit as Came, Note as Noted}
use Rattle.osi_base.specs.Link.{Link, IsLeastFresh}
use Rattle.osi_base.specs.Calls.{Call}
use Rattle.law_carrier_answers.specs.Answers.{AlwaysAnswers, AreOctets, Asked, CanBeAsked, GoesThrough, IsAnswered, MayBeOffered}
use Rattle.tp4_conn.specs.End.{IsSized}
use Rattle.tp4_entity.specs.Entity.{Entity}
use Rattle.law_tp4_proper.specs.Octets.{EntityInOctets}
use Rattle.law_tp4_proper.specs.Rest.{IsAtRest}
use Rattle.script_journal.specs.declared.event.Event.{Event}
use Rattle.script_lines.specs.declared.line.Line.{Line}
use Rattle.tpdu.specs.declared.service.Options.{Options}
use Rattle.script_lines.specs.declared.line.Line.TheVariants as lines
use Rattle.net_world.specs.Run.{raw_unit}
use Rattle.tp4_world.specs.Run.{RunsLine, Starts, transport_address}
use Rattle.tp4_world.specs.World.{World, entity_at}
use Rattle.tp4_world.specs.declared.place.EndAt.{EndAt}
use Rattle.tp4_world.specs.declared.place.Placed.{Placed}

-- what comes up has octets, between addresses
abbrev pub ComesInOctets : (List ℕ → Bool) → Up (List ℕ) → Type 0
ComesInOctets is_address (Came arrival) = MayBeOffered is_address arrival.unit
ComesInOctets is_address (Noted note) = Prim.Unit {0}

-- in the states of a set that calls do not leave, all that may be asked is answered; what waits can be taken up, and is in octets; and there is a
-- least pair that can be taken, or none
pub record Serves {C : Type 0} (is_address : List ℕ → Bool) (link : C → Link (List ℕ)) (steps : C → Call (List ℕ) → C → Type 0) (Stands : C → Type 0) : Type 0 where
  pub answers : AlwaysAnswers is_address link steps Stands
  pub in_octets : (old : C) → Stands old → AllByRecursion (ComesInOctets is_address) (link old).waiting
  pub least : (old : C) → Stands old → (found : Option (ℕ × ℕ)) × IsLeastFresh (link old) found

-- the same of one state
pub record IsServing {C : Type 0} (is_address : List ℕ → Bool) (link : C → Link (List ℕ)) (steps : C → Call (List ℕ) → C → Type 0) (old : C) : Type 0 where
  pub answered : (asked : Asked (List ℕ)) → CanBeAsked is_address (link old) asked → IsAnswered steps old asked
  pub in_octets : AllByRecursion (ComesInOctets is_address) (link old).waiting
  pub least : (found : Option (ℕ × ℕ)) × IsLeastFresh (link old) found

-- the largest of such sets
abbrev pub ServesOn : {C : Type 0} → (List ℕ → Bool) → (C → Link (List ℕ)) → (C → Call (List ℕ) → C → Type 0) → C → Type 0
ServesOn {C} is_address link steps old = (calls : List (Call (List ℕ))) (new : C) → GoesThrough is_address link steps old calls new → IsServing is_address link steps new

-- an entity of whose ends none is due, and all that it holds is in octets
pub record IsReadyEntity (is_address : List ℕ → Bool) (now : ℕ) (e : Entity) : Type 0 where
  pub rest : IsAtRest now e
  pub octets : EntityInOctets is_address e

abbrev pub AreReady : (List ℕ → Bool) → ℕ → List Placed → Type 0
AreReady is_address now placed = (system : ℕ) (e : Entity) → entity_at placed system ≡ Some e → IsReadyEntity is_address now e

-- the system of the end has an entity
abbrev pub HasEntity : List Placed → EndAt → Type 0
HasEntity placed end = IsSome (entity_at placed end.system)

-- so it is with a network between two lines
pub record IsReady {C : Type 0} (is_address : List ℕ → Bool) (link : C → Link (List ℕ)) (Stands : C → Type 0) (world : World C) : Type 0 where
  pub carrier : Stands world.carrier
  pub entities : AreReady is_address (link world.carrier).clock world.entities
  pub ends : AllByRecursion (HasEntity world.entities) world.ends

-- ---- what may be asked

-- a connect line: from the entity of a system to an address; selectors and size as a CR has them
pub record CanConnect {C : Type 0} (is_address : List ℕ → Bool) (titles : List (List ℕ)) (world : World C) (system to : ℕ) (options : Options) (selector called octets : List ℕ) : Type 0 where
  pub receiver : List ℕ
  pub receiver_is : slice_get titles to ≡ Some receiver
  pub address : is_address (transport_address receiver) ≡ true
  pub entity : Entity
  pub entity_is : entity_at world.entities system ≡ Some entity
  pub size_known : IsSized options
  pub selector_short : length selector ≤ 32
  pub selector_octets : AreOctets selector
  pub called_short : length called ≤ 32
  pub called_octets : AreOctets called
  pub octets_are : AreOctets octets

-- the network runs such a line, its octets are octets, its sizes and credits are such, and a tick comes below the greatest clock
abbrev pub CanRun : {C : Type 0} → (List ℕ → Bool) → List (List ℕ) → (C → Link (List ℕ)) → World C → Line → Type 0
CanRun is_address titles link world lines.Nothing = Prim.Unit {0}
CanRun is_address titles link world (lines.Connect system selector to called options octets) = CanConnect is_address titles world system to options selector called octets
CanRun is_address titles link world (lines.Accept end options octets) = IsSized options × AreOctets octets
CanRun is_address titles link world (lines.Refuse end octets) = AreOctets octets
CanRun is_address titles link world (lines.Disconnect end octets) = AreOctets octets
CanRun is_address titles link world (lines.Data end octets) = AreOctets octets
CanRun is_address titles link world (lines.Expedite end octets) = AreOctets octets
CanRun is_address titles link world (lines.Window end credit) = credit ≤ 255
CanRun is_address titles link world (lines.Unit system to wish octets) =
    (sender receiver : List ℕ) × (slice_get titles system ≡ Some sender) × (slice_get titles to ≡ Some receiver)
    × MayBeOffered is_address (raw_unit sender receiver octets)
CanRun is_address titles link world (lines.Deliver number system) = Prim.Unit {0}
CanRun is_address titles link world lines.Settle = Prim.Unit {0}
CanRun is_address titles link world (lines.Inject lan system octets) = AreOctets octets
CanRun is_address titles link world (lines.Restart system) = IsSome (entity_at world.entities system)
CanRun is_address titles link world lines.Tick = (link world.carrier).clock < 4000000000
CanRun is_address titles link world line = ⊥

-- the line has events, and leads to such a network
pub record HasRun {C : Type 0} (is_address : List ℕ → Bool) (link : C → Link (List ℕ)) (steps : C → Call (List ℕ) → C → Type 0) (Stands : C → Type 0)
    (wrap : ℕ → ℕ → ℕ) (titles : List (List ℕ)) (old : World C) (line : Line) : Type 0 where
  pub made : List Event
  pub new : World C
  pub runs : RunsLine link steps wrap titles old line made new
  pub ready : IsReady is_address link Stands new

-- and so has the start
pub record HasStart {C : Type 0} (is_address : List ℕ → Bool) (link : C → Link (List ℕ)) (steps : C → Call (List ℕ) → C → Type 0) (Stands : C → Type 0)
    (first : C) (placed : List Placed) : Type 0 where
  pub made : List Event
  pub new : World C
  pub starts : Starts link steps first placed made new
  pub ready : IsReady is_address link Stands new
