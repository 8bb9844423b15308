-- Where octets are no capture: the first fault, at its offset, by the order in which the header and each record are checked.
use Rattle.std.specs.Prelude.{◌≡◌, ◌⊎◌, ◌+◌, ◌<◌, ◌≤◌, ℕ, List, [], length}
use Rattle.capture_decode.specs.Capture.{number_at, IsMagic, IsVersion, Record, Begins}
use Rattle.capture_decode.specs.declared.cause.Cause.{Cause}
use Rattle.capture_decode.specs.declared.cause.Cause.TheVariants.{Short, Magic, Version, Link, Length}
use Rattle.capture_decode.specs.declared.order.Order.{Order}

-- the 24 octets of a header are there, with a magic number in this order
abbrev pub HasMagic : Order → List ℕ → Type 0
HasMagic order octets = (24 ≤ length octets) × IsMagic order octets

-- the header is incomplete; it has another magic number, another version, or another link type
abbrev pub IsHeaderFault : List ℕ → ℕ → Cause → Type 0
IsHeaderFault octets offset Short = (length octets < 24) × (offset ≡ 0)
IsHeaderFault octets offset Magic = (24 ≤ length octets) × ((order : Order) → ¬ IsMagic order octets) × (offset ≡ 0)
IsHeaderFault octets offset Version = (order : Order) × HasMagic order octets × ¬ IsVersion order octets × (offset ≡ 4)
IsHeaderFault octets offset Link =
    (order : Order) × HasMagic order octets × IsVersion order octets × ¬ (number_at order 20 4 octets ≡ 1) × (offset ≡ 20)
IsHeaderFault octets offset Length = ⊥

-- the four numbers of a record are there, and its captured length is one that a record may have
pub record HasLengths (order : Order) (octets : List ℕ) : Type 0 where
  pub there : 16 ≤ length octets
  pub most : number_at order 8 4 octets ≤ 65535
  pub within : number_at order 8 4 octets ≤ number_at order 12 4 octets

-- less than a whole record, which may go on
abbrev pub IsOpen : Order → List ℕ → Type 0
IsOpen order octets = (length octets < 16) ⊎ (HasLengths order octets × (length octets < 16 + number_at order 8 4 octets))

-- a record is incomplete, or its captured length is above 65,535 or above the original one
abbrev pub IsRecordFault : Order → List ℕ → Cause → Type 0
IsRecordFault order octets Short = (0 < length octets) × IsOpen order octets
IsRecordFault order octets Length =
    (16 ≤ length octets) × ((65535 < number_at order 8 4 octets) ⊎ (number_at order 12 4 octets < number_at order 8 4 octets))
IsRecordFault order octets Magic = ⊥
IsRecordFault order octets Version = ⊥
IsRecordFault order octets Link = ⊥

-- a fault in the record behind these ones, at its first octet
pub record FailsBehind (octets : List ℕ) (records : List Record) (offset : ℕ) (cause : Cause) : Type 0 where
  pub order : Order
  pub rest : List ℕ
  pub begins : Begins octets order records rest
  pub fault : IsRecordFault order rest cause
  pub place : offset + length rest ≡ length octets

-- the first fault of the octets, and the whole records before it
abbrev pub IsFaultAfter : List ℕ → List Record → ℕ → Cause → Type 0
IsFaultAfter octets records offset cause = ((records ≡ []) × IsHeaderFault octets offset cause) ⊎ FailsBehind octets records offset cause

-- the octets are no capture: this is their first fault
abbrev pub CaptureFault : List ℕ → ℕ → Cause → Type 0
CaptureFault octets offset cause = (records : List Record) × IsFaultAfter octets records offset cause

-- a fault that no further octets mend
abbrev pub IsLasting : Cause → Type 0
IsLasting Short = ⊥
IsLasting Magic = Unit {0}
IsLasting Version = Unit {0}
IsLasting Link = Unit {0}
IsLasting Length = Unit {0}

-- the octets may go on to a capture: a part of a header, or whole records and less than a whole one
abbrev pub IsBegun : List ℕ → List Record → Type 0
IsBegun octets records = ((records ≡ []) × (length octets < 24))
    ⊎ ((order : Order) × (rest : List ℕ) × Begins octets order records rest × IsOpen order rest)
