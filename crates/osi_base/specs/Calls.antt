-- What each call of a carrier does, to what those above see of it (X.233, connectionless-mode network service).
use Rattle.std.specs.Prelude.{◌≡◌, ◌≢◌, ◌⊎◌, ◌↔◌, ℕ, ◌+◌, ◌<◌, ◌≤◌, ◌==◌, min, Bool, true, false, ◌&&◌, ◌||◌, List, [], ◌∷◌, ◌++◌, Option, Some, None, IsTrue}
use Rattle.std.specs.List.{Contains, All}
use Rattle.osi_base.specs.declared.unit.Unit.{Unit as CarriedUnit}
use Rattle.osi_base.specs.declared.unit.Up.{Up}
use Rattle.osi_base.specs.declared.unit.Wish.{Wish}
use Rattle.osi_base.specs.declared.unit.Offered.{Offered}
use Rattle.osi_base.specs.declared.unit.Offered.TheVariants.{Taken as WasTaken}
use Rattle.osi_base.specs.declared.unit.Picked.{Picked}
use Rattle.osi_base.specs.declared.unit.Picked.TheVariants.{Taken as WasPicked, NoSuch, Late, NotThere, NotOurs}
use Rattle.osi_base.specs.declared.unit.Injected.{Injected}
use Rattle.osi_base.specs.declared.unit.Injected.TheVariants.{Taken as WasInjected}
use Rattle.osi_base.specs.Link.{Link, IsNote, IsLawful, AreStrays}

-- one call of a carrier, with its arguments and its answer
pub data Call (A : Type 0) : Type 0 where
  Offer : (unit : CarriedUnit A) (wish : Wish) (answer : Offered) → Call A
  Choose : (pick system : ℕ) (answer : Picked) → Call A
  Inject : (lan system : ℕ) (octets : List ℕ) (answer : Injected) → Call A
  NextUp : (answer : Option (Up A)) → Call A
  Tick : Call A

-- what never changes
pub record IsSameLink {A : Type 0} (old new : Link A) : Type 0 where
  pub bound : (to : A) → new.bound to ≡ old.bound to
  pub room : (to : A) → new.room to ≡ old.room to
  pub belongs : (to : A) (system : ℕ) → new.belongs to system ≡ old.belongs to system

-- nothing floats that did not before
abbrev pub NothingNew : {A : Type 0} → Link A → Link A → Type 0
NothingNew {A} old new = (entry : ℕ × CarriedUnit A) → Contains new.floating entry → Contains old.floating entry

-- what may still arrive goes on floating
abbrev pub NothingLost : {A : Type 0} → Link A → Link A → Type 0
NothingLost {A} old new =
    (entry : ℕ × CarriedUnit A) → Contains old.floating entry → new.clock ≤ entry.0 + new.bound entry.1.to → Contains new.floating entry

-- what could be taken still can
abbrev pub StillTakes : {A : Type 0} → Link A → Link A → Type 0
StillTakes old new = (pick system : ℕ) → IsTrue (old.takes pick system) → IsTrue (new.takes pick system)

-- of the pairs that can be taken, those were taken that were before, and this one
abbrev pub TookAlso : {A : Type 0} → Link A → (ℕ → ℕ → Bool) → Link A → Type 0
TookAlso old this new =
    (pick system : ℕ) → IsTrue (new.takes pick system)
    → new.took pick system ≡ (old.takes pick system && old.took pick system || this pick system)

-- picks are given upward, and only one that was not given yet can come to be taken
pub record GivesPicks {A : Type 0} (old new : Link A) : Type 0 where
  pub given : old.given ≤ new.given
  pub again : (pick system : ℕ) → IsTrue (new.takes pick system) → IsTrue (old.takes pick system) ⊎ (old.given < pick)

abbrev pub no_pair : ℕ → ℕ → Bool
no_pair pick system = false

-- the pair chosen, where it was taken
abbrev pub pair_of : ℕ → ℕ → Picked → ℕ → ℕ → Bool
pair_of chosen at WasPicked pick system = pick == chosen && system == at
pair_of chosen at NoSuch pick system = false
pair_of chosen at Late pick system = false
pair_of chosen at NotThere pick system = false
pair_of chosen at NotOurs pick system = false

-- notes alone were added to what waits
pub record AddsNotes {A : Type 0} (old new : Link A) : Type 0 where
  pub notes : List (Up A)
  pub all_notes : All IsNote notes
  pub waiting : new.waiting ≡ old.waiting ++ notes

-- these were added to what waits, and the strays among them counted
pub record Adds {A : Type 0} (old : Link A) (ups : List (Up A)) (new : Link A) : Type 0 where
  pub strays_among : ℕ
  pub are_strays : AreStrays old ups strays_among
  pub strays : new.strays ≡ min (old.strays + strays_among) 4294967295
  pub waiting : new.waiting ≡ old.waiting ++ ups

-- a unit floats from an offer on that is taken
pub record Offers {A : Type 0} (old : Link A) (unit : CarriedUnit A) (answer : Offered) (new : Link A) : Type 0 where
  pub same : IsSameLink old new
  pub clock : new.clock ≡ old.clock
  pub honest : new.honest ≡ old.honest
  pub strays : new.strays ≡ old.strays
  pub grows : (entry : ℕ × CarriedUnit A) → Contains new.floating entry → Contains old.floating entry ⊎ ((answer ≡ WasTaken) × (entry ≡ (old.clock, unit)))
  pub added : answer ≡ WasTaken → Contains new.floating (old.clock, unit)
  pub lost : NothingLost old new
  pub notes : AddsNotes old new
  pub takes : StillTakes old new
  pub picks : GivesPicks old new
  pub took : TookAlso old no_pair new

-- what comes up was afloat, as long as the carrier is honest
pub record Chooses {A : Type 0} (old : Link A) (pick system : ℕ) (answer : Picked) (new : Link A) : Type 0 where
  pub same : IsSameLink old new
  pub clock : new.clock ≡ old.clock
  pub honest : new.honest ≡ old.honest
  pub grows : NothingNew old new
  pub lost : NothingLost old new
  pub ups : List (Up A)
  pub adds : Adds old ups new
  pub lawful : old.honest ≡ true → All (IsLawful old) ups
  pub refused : answer ≢ WasPicked → All IsNote ups
  pub answers : (answer ≡ WasPicked) ↔ IsTrue (old.takes pick system)
  pub takes : StillTakes old new
  pub picks : GivesPicks old new
  pub took : TookAlso old (pair_of pick system answer) new

-- the carrier is no longer honest where octets were injected
pub record Injects {A : Type 0} (old : Link A) (answer : Injected) (new : Link A) : Type 0 where
  pub same : IsSameLink old new
  pub clock : new.clock ≡ old.clock
  pub injected : answer ≡ WasInjected → new.honest ≡ false
  pub honest : answer ≢ WasInjected → new.honest ≡ old.honest
  pub grows : NothingNew old new
  pub lost : NothingLost old new
  pub ups : List (Up A)
  pub adds : Adds old ups new
  pub refused : answer ≢ WasInjected → All IsNote ups
  pub takes : StillTakes old new
  pub picks : GivesPicks old new
  pub took : TookAlso old no_pair new

-- the first of what waits, before the rest
abbrev pub after_first : {A : Type 0} → Option (Up A) → List (Up A) → List (Up A)
after_first None rest = rest
after_first (Some up) rest = up ∷ rest

-- the first of what waits is handed up
pub record TakesUp {A : Type 0} (old : Link A) (answer : Option (Up A)) (new : Link A) : Type 0 where
  pub same : IsSameLink old new
  pub clock : new.clock ≡ old.clock
  pub honest : new.honest ≡ old.honest
  pub strays : new.strays ≡ old.strays
  pub grows : NothingNew old new
  pub lost : NothingLost old new
  pub waiting : old.waiting ≡ after_first answer new.waiting
  pub none : answer ≡ None → old.waiting ≡ []
  pub takes : StillTakes old new
  pub picks : GivesPicks old new
  pub took : TookAlso old no_pair new

-- one tick more
pub record Ticks {A : Type 0} (old new : Link A) : Type 0 where
  pub same : IsSameLink old new
  pub clock : new.clock ≡ old.clock + 1
  pub honest : new.honest ≡ old.honest
  pub strays : new.strays ≡ old.strays
  pub grows : NothingNew old new
  pub lost : NothingLost old new
  pub notes : AddsNotes old new
  pub picks : GivesPicks old new
  pub took : TookAlso old no_pair new

-- what a call does by the link contract
abbrev pub Keeps : {A : Type 0} → Link A → Call A → Link A → Type 0
Keeps old (Offer unit wish answer) new = Offers old unit answer new
Keeps old (Choose pick system answer) new = Chooses old pick system answer new
Keeps old (Inject lan system octets answer) new = Injects old answer new
Keeps old (NextUp answer) new = TakesUp old answer new
Keeps old Tick new = Ticks old new

-- the carrier went through these calls, in this order
abbrev pub Chain : {S A : Type 0} → (S → Call A → S → Type 0) → S → List (Call A) → S → Type 0
Chain steps old [] new = new ≡ old
Chain {S} steps old (call ∷ calls) new = (mid : S) × steps old call mid × Chain steps mid calls new

-- it holds from the first state of every chain of calls to its last
abbrev pub OnChains : {S A : Type 0} → (S → Call A → S → Type 0) → (S → S → Type 0) → Type 0
OnChains {S} {A} steps Holds = (old new : S) (calls : List (Call A)) → Chain steps old calls new → Holds old new
