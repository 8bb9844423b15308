-- What holds of every run of a network of users of datagrams.
use Rattle.std.specs.Prelude.{◌≡◌, ℕ, List, ◌++◌, Bool}
use Rattle.osi_base.specs.declared.unit.Arrival.{Arrival}
use Rattle.osi_base.specs.Link.{Link}
use Rattle.osi_base.specs.Calls.{Call}
use Rattle.law_carrier_answers.specs.Answers.{OneStep}
use Rattle.script_journal.specs.declared.event.Event.{Event}
use Rattle.cltp.specs.declared.system.ClSystem.{ClSystem}
use Rattle.cltp.specs.Hearing.{Hears}
use Rattle.cltp.specs.Lawful.{DatagramLawful}
use Rattle.cltp.specs.Run.{ClCall, RunsCall, RunsCalls, Starts}
use Rattle.cltp.specs.Systems.{World}
use Rattle.cltp.specs.First.{IsNew}
use Rattle.cltp.specs.Total.{ServesOn, CanRun, HasRun, HasStart}

-- each datagram that is shown was sent
abbrev pub ShowsSentDatagrams : {C : Type 0} → (C → Link (List ℕ)) → (C → Call (List ℕ) → C → Type 0) → Type 0
ShowsSentDatagrams {C} link steps = (life : ℕ) (systems : List ClSystem) (made : C) (begun journal : List Event) (calls : List ClCall) (first last : World C)
    → IsNew life (link made) → Starts link steps made systems begun first → RunsCalls link steps first calls journal last
    → DatagramLawful life systems (begun ++ journal)

-- a unit that comes up gives one list of events
pub record OneHearing : Type 0 where
  pub some : (systems : List ClSystem) (arrival : Arrival (List ℕ)) → (made : List Event) × Hears systems arrival made
  pub one : (systems : List ClSystem) (arrival : Arrival (List ℕ)) (made other : List Event) → Hears systems arrival made → Hears systems arrival other → made ≡ other

-- where the carrier answers in one way, a call has one list of events, and leads to one state
abbrev pub OneRun : {C : Type 0} → (C → Link (List ℕ)) → (C → Call (List ℕ) → C → Type 0) → Type 0
OneRun {C} link steps = OneStep steps → (old : World C) (call : ClCall) (made other : List Event) (new next : World C)
    → RunsCall link steps old call made new → RunsCall link steps old call other next → (made ≡ other) × (new ≡ next)

-- and so has the start
abbrev pub OneStart : {C : Type 0} → (C → Link (List ℕ)) → (C → Call (List ℕ) → C → Type 0) → Type 0
OneStart {C} link steps = OneStep steps → (first : C) (systems : List ClSystem) (made other : List Event) (new next : World C)
    → Starts link steps first systems made new → Starts link steps first systems other next → (made ≡ other) × (new ≡ next)

-- where the carrier serves from then on, each call that may be asked has a run, after which it still does
abbrev pub SomeRun : {C : Type 0} → (C → Link (List ℕ)) → (C → Call (List ℕ) → C → Type 0) → Type 0
SomeRun {C} link steps = (is_address : List ℕ → Bool) (old : World C) (call : ClCall) → ServesOn is_address link steps old.carrier → CanRun is_address link old call
    → HasRun link steps (ServesOn is_address link steps) old call

-- and so has the start
abbrev pub SomeStart : {C : Type 0} → (C → Link (List ℕ)) → (C → Call (List ℕ) → C → Type 0) → Type 0
SomeStart {C} link steps = (is_address : List ℕ → Bool) (first : C) (systems : List ClSystem) → ServesOn is_address link steps first
    → HasStart link steps (ServesOn is_address link steps) first systems
