-- Each call that a network of users may be asked has its events, where the carrier answers all that it may be asked (X.214, T-UNIT-DATA;
-- X.233, connectionless-mode network service).
use Rattle.std.specs.Prelude.{◌≡◌, ℕ, ◌<◌, Bool, true, List, Option, Some}
use Rattle.osi_base.specs.Link.{Link, IsLeastFresh}
use Rattle.osi_base.specs.Calls.{Call}
use Rattle.law_carrier_answers.specs.Answers.{AlwaysAnswers, AreOctets, Asked, CanBeAsked, GoesThrough, IsAnswered}
use Rattle.script_journal.specs.declared.event.Event.{Event}
use Rattle.cltp.specs.declared.sending.Request.{Request}
use Rattle.cltp.specs.declared.system.ClSystem.{ClSystem}
use Rattle.cltp.specs.Run.{ClCall, Sending, Delivering, Ticking, Settling, RunsCall, Starts}
use Rattle.cltp.specs.Systems.{World, system_at}
use Rattle.cltp.specs.Ud.{IsSelector}

-- in the states of a set that calls do not leave, all that may be asked is answered, and there is a least pair that can be taken, or none
pub record Serves {C : Type 0} (is_address : List ℕ → Bool) (link : C → Link (List ℕ)) (steps : C → Call (List ℕ) → C → Type 0) (Stands : C → Type 0) : Type 0 where
  pub answers : AlwaysAnswers is_address link steps Stands
  pub least : (old : C) → Stands old → (found : Option (ℕ × ℕ)) × IsLeastFresh (link old) found

-- the same of one state
pub record IsServing {C : Type 0} (is_address : List ℕ → Bool) (link : C → Link (List ℕ)) (steps : C → Call (List ℕ) → C → Type 0) (old : C) : Type 0 where
  pub answered : (asked : Asked (List ℕ)) → CanBeAsked is_address (link old) asked → IsAnswered steps old asked
  pub least : (found : Option (ℕ × ℕ)) × IsLeastFresh (link old) found

-- the largest of such sets
abbrev pub ServesOn : {C : Type 0} → (List ℕ → Bool) → (C → Link (List ℕ)) → (C → Call (List ℕ) → C → Type 0) → C → Type 0
ServesOn {C} is_address link steps old = (calls : List (Call (List ℕ))) (new : C) → GoesThrough is_address link steps old calls new → IsServing is_address link steps new

-- a request of a system: its own address is one and that of the request, and octets are octets
pub record CanSend (is_address : List ℕ → Bool) (systems : List ClSystem) (system : ℕ) (request : Request) : Type 0 where
  pub own : ClSystem
  pub own_is : system_at systems system ≡ Some own
  pub from : is_address own.own ≡ true
  pub to : is_address request.to ≡ true
  pub from_selector : IsSelector request.from_selector
  pub to_selector : IsSelector request.to_selector
  pub from_octets : AreOctets request.from_selector
  pub to_octets : AreOctets request.to_selector
  pub octets : AreOctets request.octets

-- what may be asked; a tick comes below the greatest clock
abbrev pub CanRun : {C : Type 0} → (List ℕ → Bool) → (C → Link (List ℕ)) → World C → ClCall → Type 0
CanRun is_address link world (Sending system request) = CanSend is_address world.systems system request
CanRun is_address link world (Delivering number system) = Prim.Unit {0}
CanRun is_address link world Ticking = (link world.carrier).clock < 4000000000
CanRun is_address link world Settling = Prim.Unit {0}

-- the call has events, and leads to a state of the set
pub record HasRun {C : Type 0} (link : C → Link (List ℕ)) (steps : C → Call (List ℕ) → C → Type 0) (Stands : C → Type 0) (old : World C) (call : ClCall) : Type 0 where
  pub made : List Event
  pub new : World C
  pub runs : RunsCall link steps old call made new
  pub stands : Stands new.carrier
  pub same : new.systems ≡ old.systems

-- and so has the start
pub record HasStart {C : Type 0} (link : C → Link (List ℕ)) (steps : C → Call (List ℕ) → C → Type 0) (Stands : C → Type 0) (first : C) (systems : List ClSystem) : Type 0 where
  pub made : List Event
  pub new : World C
  pub starts : Starts link steps first systems made new
  pub stands : Stands new.carrier
