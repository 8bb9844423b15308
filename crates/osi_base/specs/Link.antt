-- What a carrier is to those above it (X.233, connectionless-mode network service).
use Rattle.std.specs.Prelude.{◌≡◌, ◌⊎◌, ℕ, ◌+◌, ◌<◌, ◌≤◌, Bool, false, not, ◌&&◌, List, [], ◌∷◌, Option, Some, None, IsTrue}
use Rattle.std.specs.List.{Contains}
use Rattle.osi_base.specs.declared.unit.Unit.{Unit as CarriedUnit}
use Rattle.osi_base.specs.declared.unit.Up.{Up}
use Rattle.osi_base.specs.declared.unit.Up.TheVariants.{Unit as Came, Note as Noted}

-- what those above a carrier see of it
pub record Link (A : Type 0) : Type 0 where
  pub clock : ℕ
  -- the units that it took, with their ticks
  pub floating : List (ℕ × CarriedUnit A)
  -- what it hands up next
  pub waiting : List (Up A)
  -- nothing was injected yet
  pub honest : Bool
  -- how many arrivals equalled no unit afloat
  pub strays : ℕ
  -- how many ticks a unit to that address may float, and how many octets it may have
  pub bound : A → ℕ
  pub room : A → ℕ
  -- the system is one of that destination
  pub belongs : A → ℕ → Bool
  -- the picks up to that number were given
  pub given : ℕ
  -- a choice of that pick for that system would be taken, and one was
  pub takes : ℕ → ℕ → Bool
  pub took : ℕ → ℕ → Bool

-- the unit was taken, and may still arrive
pub record IsAfloat {A : Type 0} (link : Link A) (unit : CarriedUnit A) : Type 0 where
  pub tick : ℕ
  pub taken : Contains link.floating (tick, unit)
  pub live : link.clock ≤ tick + link.bound unit.to

abbrev pub IsNote : {A : Type 0} → Up A → Type 0
IsNote (Came arrival) = ⊥
IsNote (Noted note) = Unit {0}

-- an arrival is that of a unit afloat, at a system of its destination
abbrev pub IsLawful : {A : Type 0} → Link A → Up A → Type 0
IsLawful link (Came arrival) = IsAfloat link arrival.unit × IsTrue (link.belongs arrival.unit.to arrival.system)
IsLawful link (Noted note) = Unit {0}

-- so many of them are arrivals that equal no unit afloat
abbrev pub AreStrays : {A : Type 0} → Link A → List (Up A) → ℕ → Type 0
AreStrays link [] count = count ≡ 0
AreStrays link (Noted note ∷ ups) count = AreStrays link ups count
AreStrays link (Came arrival ∷ ups) count =
    (IsAfloat link arrival.unit × AreStrays link ups count)
    ⊎ ((rest : ℕ) × (IsAfloat link arrival.unit → ⊥) × (count ≡ rest + 1) × AreStrays link ups rest)

-- the pair can be taken, and was not yet
abbrev pub is_fresh : {A : Type 0} → Link A → ℕ → ℕ → Bool
is_fresh link pick system = link.takes pick system && not (link.took pick system)

-- what can be taken has a pick that was given
abbrev pub IsGiven : {A : Type 0} → Link A → Type 0
IsGiven link = (pick system : ℕ) → IsTrue (link.takes pick system) → pick ≤ link.given

-- the pick was given, and the pair cannot be taken, or was: it is fresh never again
abbrev pub IsSpent : {A : Type 0} → Link A → ℕ → ℕ → Type 0
IsSpent link pick system = (pick ≤ link.given) × (IsTrue (link.takes pick system) → IsTrue (link.took pick system))

-- the pair is that one, or comes before it
abbrev pub IsUpTo : ℕ × ℕ → ℕ → ℕ → Type 0
IsUpTo pair pick system = (pair.0 < pick) ⊎ ((pair.0 ≡ pick) × (pair.1 ≤ system))

-- the least fresh pair, and none exactly where there is none
abbrev pub IsLeastFresh : {A : Type 0} → Link A → Option (ℕ × ℕ) → Type 0
IsLeastFresh link None = (pick system : ℕ) → is_fresh link pick system ≡ false
IsLeastFresh link (Some pair) =
    IsTrue (is_fresh link pair.0 pair.1)
    × ((pick system : ℕ) → IsTrue (is_fresh link pick system) → IsUpTo pair pick system)
