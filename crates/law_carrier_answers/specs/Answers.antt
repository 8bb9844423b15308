-- What a carrier is asked, apart from its answer; that it never answers in two ways, and that it always answers (X.233,
-- connectionless-mode network service).
use Rattle.std.specs.Prelude.{◌≡◌, ℕ, ◌<◌, Bool, true, List, [], ◌∷◌}
use Rattle.std.specs.List.{AllByRecursion}
use Rattle.osi_base.specs.declared.unit.Unit.{Unit as CarriedUnit}
use Rattle.osi_base.specs.declared.unit.Up.{Up}
use Rattle.osi_base.specs.declared.unit.Wish.{Wish}
use Rattle.osi_base.specs.Link.{Link}
use Rattle.osi_base.specs.Calls.{Call, Offer, Choose, Inject, NextUp, Tick}
use Rattle.osi_base.specs.Gathering.{Gathers}

-- a call with its arguments, and without its answer
pub data Asked (A : Type 0) : Type 0 where
  Offering : (unit : CarriedUnit A) (wish : Wish) → Asked A
  Choosing : (pick system : ℕ) → Asked A
  Injecting : (lan system : ℕ) (octets : List ℕ) → Asked A
  TakingUp : Asked A
  Ticking : Asked A

abbrev pub asked_of : {A : Type 0} → Call A → Asked A
asked_of (Offer unit wish answer) = Offering unit wish
asked_of (Choose pick system answer) = Choosing pick system
asked_of (Inject lan system octets answer) = Injecting lan system octets
asked_of (NextUp answer) = TakingUp
asked_of Tick = Ticking

-- what is asked in a state has one answer, and leads to one state
abbrev pub OneStep : {C A : Type 0} → (C → Call A → C → Type 0) → Type 0
OneStep {C} {A} steps = (old : C) (one other : Call A) (new next : C)
    → asked_of one ≡ asked_of other → steps old one new → steps old other next → (one ≡ other) × (new ≡ next)

-- what waits is taken up in one way
abbrev pub OneGathering : {C A : Type 0} → (C → Link A) → (C → Call A → C → Type 0) → Type 0
OneGathering {C} {A} link steps = (old : C) (ups others : List (Up A)) (new next : C)
    → Gathers link steps old ups new → Gathers link steps old others next → (ups ≡ others) × (new ≡ next)

-- ---- what may be asked

-- the octets are octets
abbrev pub AreOctets : List ℕ → Type 0
AreOctets octets = AllByRecursion (λ octet. octet < 256) octets

-- a unit of octets, between addresses that pass that test
pub record MayBeOffered {A : Type 0} (is_address : A → Bool) (unit : CarriedUnit A) : Type 0 where
  pub from : is_address unit.from ≡ true
  pub to : is_address unit.to ≡ true
  pub octets : AreOctets unit.octets

-- what may be asked: octets are octets, addresses are addresses, and a tick comes below the greatest clock alone
abbrev pub CanBeAsked : {A : Type 0} → (A → Bool) → Link A → Asked A → Type 0
CanBeAsked is_address link (Offering unit wish) = MayBeOffered is_address unit
CanBeAsked is_address link (Choosing pick system) = Prim.Unit {0}
CanBeAsked is_address link (Injecting lan system octets) = AreOctets octets
CanBeAsked is_address link TakingUp = Prim.Unit {0}
CanBeAsked is_address link Ticking = link.clock < 4000000000

-- what is asked is answered
pub record IsAnswered {C A : Type 0} (steps : C → Call A → C → Type 0) (old : C) (asked : Asked A) : Type 0 where
  pub call : Call A
  pub new : C
  pub is_asked : asked_of call ≡ asked
  pub steps_to : steps old call new

-- in the states of a set that calls do not leave, all that may be asked is answered
pub record AlwaysAnswers {C A : Type 0} (is_address : A → Bool) (link : C → Link A) (steps : C → Call A → C → Type 0) (Stands : C → Type 0) : Type 0 where
  pub answered : (old : C) (asked : Asked A) → Stands old → CanBeAsked is_address (link old) asked → IsAnswered steps old asked
  pub stays : (old : C) (call : Call A) (new : C) → Stands old → CanBeAsked is_address (link old) (asked_of call) → steps old call new → Stands new

-- the carrier went through these calls, in this order, each of which may be asked
abbrev pub GoesThrough : {C A : Type 0} → (A → Bool) → (C → Link A) → (C → Call A → C → Type 0) → C → List (Call A) → C → Type 0
GoesThrough is_address link steps old [] new = new ≡ old
GoesThrough {C} is_address link steps old (call ∷ calls) new =
    CanBeAsked is_address (link old) (asked_of call) × ((mid : C) × steps old call mid × GoesThrough is_address link steps mid calls new)

-- the largest of such sets: calls that may be asked lead to states alone in which all that may be asked is answered
abbrev pub AnswersOn : {C A : Type 0} → (A → Bool) → (C → Link A) → (C → Call A → C → Type 0) → C → Type 0
AnswersOn {C} {A} is_address link steps old = (calls : List (Call A)) (new : C) (asked : Asked A)
    → GoesThrough is_address link steps old calls new → CanBeAsked is_address (link new) asked → IsAnswered steps new asked

-- in the states of a set, what waits can be taken up, and leaves a state of the set
abbrev pub SomeGathering : {C A : Type 0} → (C → Link A) → (C → Call A → C → Type 0) → (C → Type 0) → Type 0
SomeGathering {C} {A} link steps Stands = (old : C) → Stands old → (ups : List (Up A)) × (new : C) × Gathers link steps old ups new × Stands new
