-- What must hold of octets that begin with a PDU of ES-IS, and the first fault (ISO 9542, PDU header analysis).
use Rattle.std.specs.Prelude.{◌≡◌, ◌==◌, ◌&&◌, ◌||◌, ℕ, ◌%◌, Bool, false, nat_le, List, [], ◌∷◌, length, take, drop, slice_index, Option, Some, None}
use Rattle.std.specs.Option.{is_some}
use Rattle.pdu_parts.specs.Checksum.{checksum_in}
use Rattle.pdu_parts.specs.FirstFault.{first_failing, must}
use Rattle.pdu_parts.specs.Number.{number_at}
use Rattle.pdu_parts.specs.Parameter.{left_in}
use Rattle.esis_pdu.specs.declared.fault.EsisFault.{EsisFault}
use Rattle.esis_pdu.specs.declared.fault.EsisFault.TheVariants as faults
use Rattle.esis_pdu.specs.Addresses.{parts_at}
use Rattle.esis_pdu.specs.Hellos.{Esis}

-- the length indicator, and the octets that it counts
abbrev pub indicator : List ℕ → ℕ
indicator octets = slice_index octets 1

abbrev pub front : List ℕ → List ℕ
front octets = take (indicator octets) octets

-- the least and the most that a length indicator may be, and no more than the octets given
abbrev pub is_length : ℕ → ℕ → Bool
is_length len given = nat_le 10 len && nat_le len 254 && nat_le len given

-- the protocol and its version
abbrev pub is_version : List ℕ → Bool
is_version pdu = (slice_index pdu 0 == 130) && (slice_index pdu 2 == 1)

-- the type, in the low five bits of its octet: ESH, ISH or RD
abbrev pub type_in : List ℕ → ℕ
type_in pdu = slice_index pdu 4 % 32

abbrev pub is_type : ℕ → Bool
is_type type = (type == 2) || (type == 4) || (type == 6)

-- the addresses behind the fixed part, and the octets after them
abbrev pub parts_in : List ℕ → Option Esis
parts_in pdu = parts_at (type_in pdu) (number_at 5 pdu) (drop 9 pdu)

-- the octets after the addresses are options, with nothing left behind them
abbrev pub has_options : Option Esis → Bool
has_options None = false
has_options (Some pdu) = length (left_in pdu.options) == 0

-- what must hold, in the order in which it is looked at
unfoldable pub steps : List ℕ → List (Option EsisFault)
steps octets =
    must (nat_le 10 (length octets)) faults.Short
    ∷ must (is_length (indicator octets) (length octets)) faults.Length
    ∷ must (is_version (front octets)) faults.Version
    ∷ must (is_some (checksum_in (front octets))) faults.Checksum
    ∷ must (is_type (type_in (front octets))) faults.Kind
    ∷ must (is_some (parts_in (front octets))) faults.Address
    ∷ must (has_options (parts_in (front octets))) faults.Option
    ∷ []

abbrev pub first_fault : List ℕ → Option EsisFault
first_fault octets = first_failing (steps octets)

-- this is the first that fails
abbrev pub IsEsisFault : List ℕ → EsisFault → Type 0
IsEsisFault octets fault = first_fault octets ≡ Some fault
