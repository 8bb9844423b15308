-- What the users of a calm network may rely on, as long as nothing is dropped (X.214, service primitives; queue model of the transport service).
use Rattle.std.specs.Prelude.{◌≡◌, ℕ, ◌==◌, true, false, if◌then◌else◌, List, ◌∷◌, ◌++◌, Option, Some, None, Contains, option_and_then}
use Rattle.std.specs.List.{AllByRecursion, list_any}
use Rattle.osi_base.specs.Calls.{Call}
use Rattle.osi_base.specs.Link.{Link}
use Rattle.osi_base.specs.declared.unit.Unit.{Unit as CarriedUnit}
use Rattle.script_journal.specs.declared.event.Event.{Event}
use Rattle.script_journal.specs.declared.event.Event.TheVariants as events
use Rattle.script_journal.specs.declared.event.Indication.{Indication}
use Rattle.script_journal.specs.declared.event.Request.{Request}
use Rattle.script_lines.specs.declared.line.Line.{Line}
use Rattle.script_lines.specs.declared.line.Line.TheVariants as lines
use Rattle.tpdu.specs.declared.service.Options.{Options}
use Rattle.net_world.specs.Fifo.{IsFifo}
use Rattle.tp4_conn.specs.End.{End}
use Rattle.tp4_conn.specs.declared.timers.Timers.{Timers}
use Rattle.tp4_entity.specs.Association.{is_called, is_registered}
use Rattle.tp4_entity.specs.Entity.{Entity, end_at}
use Rattle.tp4_entity.specs.References.{least_free}
use Rattle.law_tp4_pair.specs.Claim.{IsUndropped}
use Rattle.tp4_world.specs.Run.{RunsLine}
use Rattle.tp4_world.specs.World.{World, end_numbered, entity_at, latest}
use Rattle.tp4_world.specs.declared.place.EndAt.{EndAt}
use Rattle.law_tp4_lawful.specs.Limits.{IsProperLine}
use Rattle.law_calm_run.specs.Run.{IsCalmRun, IsStart}

-- the end of a number, where it still stands
abbrev pub end_placed : {C : Type 0} → World C → ℕ → Option EndAt → Option End
end_placed world number None = None
end_placed world number (Some place) =
    if latest world.ends place.system place.reference == number then option_and_then (λ e. end_at e place.reference) (entity_at world.entities place.system) else None

abbrev pub end_at_number : {C : Type 0} → World C → ℕ → Option End
end_at_number world number = end_placed world number (end_numbered world.ends number)

-- the indication says what the request does
pub record IsIndicationOf (asked : Request) (heard : Indication) : Type 0 where
  pub calling : heard.calling ≡ asked.calling
  pub partner : heard.partner ≡ asked.reference
  pub called : heard.called ≡ asked.called
  pub calling_selector : heard.calling_selector ≡ asked.calling_selector
  pub called_selector : heard.called_selector ≡ asked.called_selector
  pub octets : heard.octets ≡ asked.octets

-- an entity takes a request from that address and reference to that selector: the selector is registered, a reference is free, and no end of that caller is
-- there, a frozen one included
pub record MayIndicate (now : ℕ) (e : Entity) (from : List ℕ) (reference : ℕ) (selector : List ℕ) : Type 0 where
  pub registered : is_registered e.selectors selector ≡ true
  pub own : ℕ
  pub free : least_free now e ≡ Some own
  pub none : list_any (is_called false from reference) e.ends ≡ false
  pub none_frozen : list_any (is_called true from reference) e.ends ≡ false

module _ {C : Type 0} (link : C → Link (List ℕ)) (steps : C → Call (List ℕ) → C → Type 0) (wrap : ℕ → ℕ → ℕ) where
  -- a connect line that was taken, and the settle behind it
  pub record ConnectsAndSettles (titles : List (List ℕ)) (before : World C) (system to : ℕ) (selector called octets : List ℕ) (options : Options) (asked : Request) (settled : List Event) (last : World C) : Type 0 where
    pub later : List Event
    pub between : World C
    pub proper : IsProperLine (lines.Connect system selector to called options octets)
    pub connects : RunsLine link steps wrap titles before (lines.Connect system selector to called options octets) (events.Connect asked ∷ later) between
    pub settles : RunsLine link steps wrap titles between lines.Settle settled last
    pub undropped : AllByRecursion IsUndropped (later ++ settled)
    pub entity : Entity
    pub entity_is : entity_at between.entities to ≡ Some entity
    pub may : MayIndicate (link between.carrier).clock entity asked.calling asked.reference called

-- a connect request has its indication after the settle behind it, in a carrier of which `Waits` says what it has to hand over
abbrev pub ConnectsAreIndicated : {C : Type 0} → (C → Link (List ℕ)) → (C → Call (List ℕ) → C → Type 0) → (ℕ → ℕ → ℕ) → List (List ℕ) → (C → List (CarriedUnit (List ℕ)) → Type 0) → Type 0
ConnectsAreIndicated {C} link steps wrap titles Waits =
    (timers : Timers) (first before last : World C) (script : List Line) (journal settled : List Event) (system to : ℕ) (selector called octets : List ℕ) (options : Options) (asked : Request)
    → IsStart titles timers Waits first → IsCalmRun link steps wrap titles first script journal before
    → ConnectsAndSettles link steps wrap titles before system to selector called octets options asked settled last
    → (heard : Indication) × Contains settled (events.Incoming heard) × IsIndicationOf asked heard

-- where a function tells what the carrier has to hand over
abbrev pub WaitsBy : {C : Type 0} → (C → Option (List (CarriedUnit (List ℕ)))) → C → List (CarriedUnit (List ℕ)) → Type 0
WaitsBy queue_of state queue = queue_of state ≡ Some queue

-- over each carrier that loses nothing and keeps order
abbrev pub OnFifo : {C : Type 0} → (C → Link (List ℕ)) → (C → Call (List ℕ) → C → Type 0) → (List (List ℕ) → (C → List (CarriedUnit (List ℕ)) → Type 0) → Type 0) → Type 0
OnFifo {C} link steps Holds = (titles : List (List ℕ)) (queue_of : C → Option (List (CarriedUnit (List ℕ)))) → IsFifo link steps titles (WaitsBy queue_of) → Holds titles (WaitsBy queue_of)
